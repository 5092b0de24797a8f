-- What was counted of an input that is read on.
use Rattle.std.proofs.Common.{arith, ◌≡◌, ◌⊎◌, inl, inr, ◌↔◌, ℕ, ◌+◌, ◌-◌, ◌<◌, ◌≤◌, ◌^◌, List, [], ◌++◌, length, take, Option, None, Some, Result, Ok, Err, sym, subst, append_assoc, append-nil}
use Rattle.std.proofs.lemmas.List.{length-append}
use Rattle.std.specs.Prelude.{IfSome, IsSome, MatchResult}
use Rattle.ion_meter.proofs.ReadOn.{read_on-once}
use Rattle.ion_meter.specs.Devices.{AfterReads, unread, read_on, IsReadOn}
use Rattle.ion_meter.specs.declared.device.Broken.{Broken}
use Rattle.ion_meter.specs.declared.device.Input.{Ghosts as InputOf}
use Rattle.ion_tool.specs.Counting.{counter_input, Counting, CountsOn, HasCounted, IsReached, Marks}

-- nothing more was read
pub counts-none : (marks : Option Marks) → CountsOn marks [] marks
counts-none None = tt
counts-none (Some m) = (inl (omega arith), λ read has. subst (λ (l : List ℕ). HasCounted l m) (sym (append-nil read)) has)

count-then : (a b c x y : ℕ) → (b ≡ a + x) ⊎ (2 ^ 64 - 1 ≤ b) → (c ≡ b + y) ⊎ (2 ^ 64 - 1 ≤ c) → (c ≡ a + (x + y)) ⊎ (2 ^ 64 - 1 ≤ c)
count-then a b c x y (inl e) (inl f) = inl (omega arith)
count-then a b c x y (inr e) (inl f) = inr (omega arith)
count-then a b c x y e (inr f) = inr f

-- bytes that were read, and then others
counts-then : (a b c : Option Marks) (first then : List ℕ) → CountsOn a first b → CountsOn b then c → CountsOn a (first ++ then) c
counts-then None None None first then x y = tt
counts-then None None (Some c) first then x y = absurd y
counts-then None (Some b) c first then x y = absurd x
counts-then (Some a) None c first then x y = absurd x
counts-then (Some a) (Some b) None first then x y = absurd y
counts-then (Some a) (Some b) (Some c) first then x y = (
  subst (λ (n : ℕ). (c.count ≡ a.count + n) ⊎ (2 ^ 64 - 1 ≤ c.count)) (sym (length-append first then)) (count-then a.count b.count c.count (length first) (length then) x.0 y.0),
  λ read has. subst (λ (l : List ℕ). HasCounted l c) (append_assoc read first then) (y.1 (read ++ first) (x.1 read has)),
)

-- what was counted of all that was read
pub counts-reads : {I : Type 0} (device : InputOf I) (first last : Counting I) (bytes : List ℕ) → AfterReads (counter_input device) first bytes last
    → CountsOn first.marks bytes last.marks
counts-reads device first last bytes unread = counts-none first.marks
counts-reads device first last bytes (read_on earlier more before after done yields seen gave) =
    counts-then first.marks before.marks after.marks earlier more (counts-reads device first before earlier done) yields.1

-- the input itself was read as the one that counts was
pub device-reads : {I : Type 0} (device : InputOf I) (first last : Counting I) (bytes : List ℕ) → AfterReads (counter_input device) first bytes last
    → AfterReads device first.device bytes last.device
device-reads device first last bytes unread = unread
device-reads device first last bytes (read_on earlier more before after done yields seen gave) =
    read_on earlier more before.device after.device (device-reads device first before earlier done) yields.0 seen gave

-- one read, whatever it answers
pub read-once : {I : Type 0} (device : InputOf I) (old new : I) (into : List ℕ) (r : Result ℕ Broken)
    → MatchResult r (λ n. device.yields old (take n into) new) (λ _. device.yields old [] new) → (device.observable new ↔ device.observable old)
    → (device.observable old → MatchResult r (λ n. device.rest old ≡ take n into ++ device.rest new) (λ _. device.rest new ≡ device.rest old)) → IsReadOn device old new
read-once device old new into (Ok n) yields seen gave = read_on-once device old new (take n into) yields seen gave
read-once device old new into (Err e) yields seen gave = read_on-once device old new [] yields seen (λ o. sym (gave o))

-- how many bytes are to be counted before so many are
abbrev pub left_to : ℕ → Option Marks → ℕ
left_to place None = 0
left_to place (Some m) = place - m.count

pub left_to-less : (place : ℕ) (old new : Option Marks) (more : List ℕ) → CountsOn old more new → 0 < length more → place ≤ 2 ^ 64 - 1 → IsSome old → IfSome old (λ m. m.count < place)
    → left_to place new < left_to place old
left_to-less place None new more on some small is short = absurd (cc is)
left_to-less place (Some old) None more on some small is short = absurd on
left_to-less place (Some old) (Some new) more on some small is short = elim on.0 [ inl e ↦ omega arith | inr e ↦ omega arith ]

-- so many were counted
pub reached-count : {I : Type 0} (device : InputOf I) (place : ℕ) (input : I) (marks : Option Marks) → IfSome marks (λ m. place ≤ m.count) → IsReached device place input marks
reached-count device place input None is = tt
reached-count device place input (Some m) is = inl is

-- or none are left
pub reached-end : {I : Type 0} (device : InputOf I) (place : ℕ) (input : I) (marks : Option Marks) → (device.observable input → device.rest input ≡ []) → IsReached device place input marks
reached-end device place input None is = tt
reached-end device place input (Some m) is = inr is
