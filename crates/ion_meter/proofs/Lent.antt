-- What a window lends, and what may be passed over of it.
use Rattle.std.proofs.Common.{◌≡◌, ℕ, ◌+◌, ◌-◌, ◌<◌, ◌≤◌, List, ◌++◌, length, take, drop, Option, None, Some, arith, sym, ap, ◌∙◌}
use Rattle.std.proofs.lemmas.Grind.{common_steps}
use Rattle.std.proofs.lemmas.List.{take-append-le, drop-append-le}
use Rattle.ion_meter.specs.declared.fault.Fault.{Fault}
use Rattle.ion_meter.specs.Windows.{Incoming, left, lent, lent_by, IsGiven, CanPass, IsPassed}

lent_by-short : (f : Option Fault) (most : ℕ) (bytes : List ℕ) (n : ℕ) → n ≤ length (lent_by f most bytes) → (n ≤ length bytes) × (n ≤ most)
lent_by-short None most bytes n h = (grind (arith, common_steps), grind (arith, common_steps))
lent_by-short (Some f) most bytes n h = (omega arith, omega arith)

lent_by-take : (f : Option Fault) (most : ℕ) (bytes : List ℕ) (n : ℕ) → n ≤ length (lent_by f most bytes) → take n (lent_by f most bytes) ≡ take n bytes
lent_by-take None most bytes n h = grind (arith, common_steps)
lent_by-take (Some f) most bytes n h = grind (arith, common_steps)

-- what was lent may be passed over
pub lent-CanPass : {I : Type 0} (s : Incoming I) (n : ℕ) → n ≤ length (lent s) → CanPass s n
lent-CanPass s n h = let w = lent_by-short s.fault (s.limit - s.place) s.buffered n h in w

-- what was lent are the next bytes
pub lent-take : {I : Type 0} (rest : I → List ℕ) (s : Incoming I) (n : ℕ) → n ≤ length (lent s) → take n (left rest s) ≡ take n (lent s)
lent-take rest s n h =
    let w = lent_by-short s.fault (s.limit - s.place) s.buffered n h in
    take-append-le n s.buffered (rest s.device) w.0 ∙ sym (lent_by-take s.fault (s.limit - s.place) s.buffered n h)

-- a byte that was given is lent
pub lent-IsGiven : {I : Type 0} (s : Incoming I) (ahead : ℕ) → s.fault ≡ None → IsGiven s ahead → ahead < length (lent s)
lent-IsGiven s ahead well given = rw well (grind (arith, common_steps))

-- what is left after bytes were passed over
pub IsPassed-left : {I : Type 0} (rest : I → List ℕ) (s t : Incoming I) (n : ℕ) → n ≤ length s.buffered → IsPassed s t n → left rest t ≡ drop n (left rest s)
IsPassed-left rest s t n h p =
    ap (λ (l : List ℕ). l ++ rest t.device) p.buffered
    ∙ (ap (λ d. drop n s.buffered ++ rest d) p.device ∙ sym (drop-append-le n s.buffered (rest s.device) h))

-- the place and what is left keep their sum
pub IsPassed-total : {I : Type 0} (rest : I → List ℕ) (s t : Incoming I) (n : ℕ) → n ≤ length s.buffered → IsPassed s t n → t.place + length (left rest t) ≡ s.place + length (left rest s)
IsPassed-total rest s t n h p =
    let long : length (left rest t) + n ≡ length (left rest s) = rw (IsPassed-left rest s t n h p) (grind (arith, common_steps)) in
    omega (arith, long, p.place)
