-- Runs that are served one after another.
use Rattle.std.proofs.Common.{arith, ◌≡◌, ◌⊎◌, inl, inr, ℕ, zero, suc, ◌<◌, ◌≤◌, ◌+◌, get_or, List, [], ◌∷◌, length, map, drop, Option, None, Some, Result, Ok, Err, refl, sym, ap, subst, ◌∙◌}
use Rattle.std.proofs.lemmas.List.{drop_more}
use Rattle.std.specs.Prelude.{max}
use Rattle.clap.specs.Words.{Text}
use Rattle.ion_meter.specs.Counts.{Counts}
use Rattle.ion_meter.specs.declared.device.Input.{Ghosts as InputOf}
use Rattle.ion_meter.specs.declared.device.Output.{Ghosts as OutputOf}
use Rattle.ion_meter.specs.declared.limits.Limits.{Limits}
use Rattle.ion_symbols.specs.Table.{Shared}
use Rattle.ion_tool.specs.Words.{file_for}
use Rattle.ion_tool.specs.Serving.{label_of, Giving, Closing, Standing, IsOpenServed, IsRunServed, AreServed, AreAllServed, IsInTurn, MayGoOn}
use Rattle.ion_tool.specs.declared.words.Task.{Task}

-- whatever the runs for the words that are left come to, that is what all of them come to
abbrev pub LeadsOn : {S F I O E : Type 0} → Giving S F → Closing S F → (F → Option (List ℕ)) → InputOf I → OutputOf O → OutputOf E → List Shared → Task → Limits
    → List Text → List Text → Standing S I O E → Standing S I O E → ℕ → Type 0
LeadsOn {S} {F} {I} {O} {E} gives closes remaining input output errors catalog asked limits words left start now status =
    (end : Standing S I O E) (own : ℕ) → AreServed gives closes remaining input output errors catalog asked limits left now end own
    → AreServed gives closes remaining input output errors catalog asked limits words start end (max status own)

max_turned : (a b c : ℕ) → max a (max b c) ≡ max (max a b) c
max_turned a b c = omega arith

max_none : (a : ℕ) → max a 0 ≡ a
max_none a = omega arith

max_first : (a : ℕ) → a ≡ max 0 a
max_first a = omega arith

-- before the first of them
pub leads_first : {S F I O E : Type 0} (gives : Giving S F) (closes : Closing S F) (remaining : F → Option (List ℕ)) (input : InputOf I) (output : OutputOf O) (errors : OutputOf E)
    (catalog : List Shared) (asked : Task) (limits : Limits) (words : List Text) (start : Standing S I O E)
    → LeadsOn gives closes remaining input output errors catalog asked limits words words start start 0
leads_first {S} {F} {I} {O} {E} gives closes remaining input output errors catalog asked limits words start = λ end own rest.
    subst (λ (n : ℕ). AreServed gives closes remaining input output errors catalog asked limits words start end n) (max_first own) rest

-- a run for a word that is spelled so
run_of : {S F I O E : Type 0} (gives : Giving S F) (closes : Closing S F) (remaining : F → Option (List ℕ)) (input : InputOf I) (output : OutputOf O) (errors : OutputOf E)
    (catalog : List Shared) (asked : Task) (limits : Limits) (word spelled : Text) (name : Option Text) (now next : Standing S I O E) (own : ℕ) → spelled ≡ word → name ≡ file_for spelled
    → IsRunServed gives closes remaining input output errors (label_of (Some spelled)) catalog asked limits name now next own
    → IsRunServed gives closes remaining input output errors (label_of (Some word)) catalog asked limits (file_for word) now next own
run_of gives closes remaining input output errors catalog asked limits word spelled name now next own e is run =
    subst (λ (w : Text). IsRunServed gives closes remaining input output errors (label_of (Some w)) catalog asked limits (file_for w) now next own) e
    (subst (λ (n : Option Text). IsRunServed gives closes remaining input output errors (label_of (Some spelled)) catalog asked limits n now next own) is run)

-- after one more
pub leads_next : {S F I O E : Type 0} (gives : Giving S F) (closes : Closing S F) (remaining : F → Option (List ℕ)) (input : InputOf I) (output : OutputOf O) (errors : OutputOf E)
    (catalog : List Shared) (asked : Task) (limits : Limits) (words left more : List Text) (word spelled : Text) (name : Option Text) (start now next : Standing S I O E) (status own total failed : ℕ)
    → left ≡ word ∷ more → spelled ≡ word → name ≡ file_for spelled → total ≡ max status own → failed ≡ output.failure_count now.output
    → LeadsOn gives closes remaining input output errors catalog asked limits words left start now status
    → IsRunServed gives closes remaining input output errors (label_of (Some spelled)) catalog asked limits name now next own
    → MayGoOn input output errors failed next.counts next.input next.output next.errors
    → LeadsOn gives closes remaining input output errors catalog asked limits words more start next total
leads_next {S} {F} {I} {O} {E} gives closes remaining input output errors catalog asked limits words left more word spelled name start now next status own total failed
    e spells named greatest count onward run followed = λ end others rest.
    subst (λ (n : ℕ). AreServed gives closes remaining input output errors catalog asked limits words start end n) (max_turned status own others ∙ ap (λ (n : ℕ). max n others) (sym greatest))
    (onward end (max own others)
    (subst (λ (l : List Text). AreServed gives closes remaining input output errors catalog asked limits l now end (max own others)) (sym e) (
      next,
      own,
      others,
      refl,
      run_of gives closes remaining input output errors catalog asked limits word spelled name now next own spells named run,
      inl (subst (λ (n : ℕ). MayGoOn input output errors n next.counts next.input next.output next.errors) count followed, rest),
    )))

-- after one that is the last
pub leads_last : {S F I O E : Type 0} (gives : Giving S F) (closes : Closing S F) (remaining : F → Option (List ℕ)) (input : InputOf I) (output : OutputOf O) (errors : OutputOf E)
    (catalog : List Shared) (asked : Task) (limits : Limits) (words left more : List Text) (word spelled : Text) (name : Option Text) (start now next : Standing S I O E) (status own total failed : ℕ)
    → left ≡ word ∷ more → spelled ≡ word → name ≡ file_for spelled → total ≡ max status own → failed ≡ output.failure_count now.output
    → LeadsOn gives closes remaining input output errors catalog asked limits words left start now status
    → IsRunServed gives closes remaining input output errors (label_of (Some spelled)) catalog asked limits name now next own
    → (¬ MayGoOn input output errors failed next.counts next.input next.output next.errors)
    → AreServed gives closes remaining input output errors catalog asked limits words start next total
leads_last {S} {F} {I} {O} {E} gives closes remaining input output errors catalog asked limits words left more word spelled name start now next status own total failed
    e spells named greatest count onward run alone =
    subst (λ (n : ℕ). AreServed gives closes remaining input output errors catalog asked limits words start next n) (ap (max status) (max_none own) ∙ sym greatest)
    (onward next (max own 0)
    (subst (λ (l : List Text). AreServed gives closes remaining input output errors catalog asked limits l now next (max own 0)) (sym e) (
      next,
      own,
      0,
      refl,
      run_of gives closes remaining input output errors catalog asked limits word spelled name now next own spells named run,
      inr (subst (λ (n : ℕ). ¬ MayGoOn input output errors n next.counts next.input next.output next.errors) count alone, refl, refl),
    )))

-- after all of them
pub leads_out : {S F I O E : Type 0} (gives : Giving S F) (closes : Closing S F) (remaining : F → Option (List ℕ)) (input : InputOf I) (output : OutputOf O) (errors : OutputOf E)
    (catalog : List Shared) (asked : Task) (limits : Limits) (words left : List Text) (start now : Standing S I O E) (status : ℕ) → left ≡ []
    → LeadsOn gives closes remaining input output errors catalog asked limits words left start now status
    → AreServed gives closes remaining input output errors catalog asked limits words start now status
leads_out {S} {F} {I} {O} {E} gives closes remaining input output errors catalog asked limits words left start now status e onward =
    subst (λ (n : ℕ). AreServed gives closes remaining input output errors catalog asked limits words start now n) (max_none status)
    (onward now 0 (subst (λ (l : List Text). AreServed gives closes remaining input output errors catalog asked limits l now now 0) (sym e) (refl, refl)))

-- what is left from one of the texts on, and past them
drop_mapped : {T : Type 0} (f : T → Text) (xs : List T) (i : ℕ) → drop i (map f xs) ≡ map f (drop i xs)
drop_mapped f [] zero = refl
drop_mapped f [] (suc i) = refl
drop_mapped f (y ∷ ys) zero = refl
drop_mapped f (y ∷ ys) (suc i) = drop_mapped f ys i

from_one : {T : Type 0} (f : T → Text) (xs : List T) (i : ℕ) (x : T) → i < length xs → x ≡ get_or xs i x → drop i (map f xs) ≡ f x ∷ drop (i + 1) (map f xs)
from_one f xs i x lt e =
    drop_mapped f xs i ∙ (ap (map f) (drop_more xs i x lt ∙ ap (λ y. y ∷ drop (i + 1) xs) (sym e)) ∙ ap (λ l. f x ∷ l) (sym (drop_mapped f xs (i + 1))))

past_all : {T : Type 0} (f : T → Text) (xs : List T) (i : ℕ) → length xs ≤ i → drop i (map f xs) ≡ []
past_all f [] zero le = refl
past_all f [] (suc i) le = refl
past_all f (y ∷ ys) zero le = absurd (omega arith)
past_all f (y ∷ ys) (suc i) le = past_all f ys i (omega arith)

pub left_from : {T : Type 0} (f : T → Text) (items xs : List T) (i : ℕ) (x : T) → xs ≡ items → i < length xs → x ≡ get_or xs i x → drop i (map f items) ≡ f x ∷ drop (i + 1) (map f items)
left_from {T} f items xs i x same lt e = subst (λ (l : List T). drop i (map f l) ≡ f x ∷ drop (i + 1) (map f l)) same (from_one f xs i x lt e)

pub left_past : {T : Type 0} (f : T → Text) (items xs : List T) (i : ℕ) → xs ≡ items → length xs ≤ i → drop i (map f items) ≡ []
left_past {T} f items xs i same le = subst (λ (l : List T). drop i (map f l) ≡ []) same (past_all f xs i le)

-- the greatest of two statuses is one
abbrev IsStatus : ℕ → Type 0
IsStatus n = (n ≡ 0) ⊎ ((n ≡ 1) ⊎ (n ≡ 3))

first_is : (a b : ℕ) → b ≤ a → IsStatus a → IsStatus (max a b)
first_is a b le is = subst (λ (n : ℕ). IsStatus n) (let e : a ≡ max a b = omega arith in e) is

second_is : (a b : ℕ) → a ≤ b → IsStatus b → IsStatus (max a b)
second_is a b le is = subst (λ (n : ℕ). IsStatus n) (let e : b ≡ max a b = omega arith in e) is

greatest : (a b : ℕ) → IsStatus a → IsStatus b → IsStatus (max a b)
greatest a b (inl e) other = second_is a b (omega arith) other
greatest a b (inr is) (inl e) = first_is a b (omega arith) (inr is)
greatest a b (inr (inl d)) (inr (inl e)) = first_is a b (omega arith) (inr (inl d))
greatest a b (inr (inl d)) (inr (inr e)) = second_is a b (omega arith) (inr (inr e))
greatest a b (inr (inr d)) (inr (inl e)) = first_is a b (omega arith) (inr (inr d))
greatest a b (inr (inr d)) (inr (inr e)) = first_is a b (omega arith) (inr (inr d))

pub greatest_status : (a b n : ℕ) → n ≡ max a b → (a ≡ 0) ⊎ ((a ≡ 1) ⊎ (a ≡ 3)) → (b ≡ 0) ⊎ ((b ≡ 1) ⊎ (b ≡ 3)) → (n ≡ 0) ⊎ ((n ≡ 1) ⊎ (n ≡ 3))
greatest_status a b n e first second = subst (λ (m : ℕ). IsStatus m) (sym e) (greatest a b first second)

-- a run leaves what is held as it was
open_holds : {S F O E : Type 0} (closes : Closing S F) (remaining : F → Option (List ℕ)) (output : OutputOf O) (errors : OutputOf E) (label : List ℕ) (catalog : List Shared) (asked : Task)
    (limits : Limits) (name : List ℕ) (found : Result F (List ℕ)) (old new : Counts) (opened files_new : S) (out_old out_new : O) (err_old err_new : E) (status : ℕ)
    → IsOpenServed closes remaining output errors label catalog asked limits name found old new opened files_new out_old out_new err_old err_new status → new.held ≡ old.held
open_holds closes remaining output errors label catalog asked limits name (Err reason) old new opened files_new out_old out_new err_old err_new status served =
    ap (λ (n : Counts). n.held) served.memory
open_holds closes remaining output errors label catalog asked limits name (Ok file) old new opened files_new out_old out_new err_old err_new status served = served.2.kept.held

pub one_holds : {S F I O E : Type 0} (gives : Giving S F) (closes : Closing S F) (remaining : F → Option (List ℕ)) (input : InputOf I) (output : OutputOf O) (errors : OutputOf E) (label : List ℕ)
    (catalog : List Shared) (asked : Task) (limits : Limits) (name : Option Text) (old new : Standing S I O E) (status : ℕ)
    → IsRunServed gives closes remaining input output errors label catalog asked limits name old new status → new.counts.held ≡ old.counts.held
one_holds gives closes remaining input output errors label catalog asked limits None old new status run = run.1.kept.held
one_holds gives closes remaining input output errors label catalog asked limits (Some name) old new status run =
    open_holds closes remaining output errors label catalog asked limits name run.1.0 old.counts new.counts run.1.1 new.files old.output new.output old.errors new.errors status run.1.3

-- ---- by how many words there are

of_none : {T S F I O E : Type 0} (gives : Giving S F) (closes : Closing S F) (remaining : F → Option (List ℕ)) (input : InputOf I) (output : OutputOf O) (errors : OutputOf E)
    (catalog : List Shared) (asked : Task) (limits : Limits) (f : T → Text) (xs : List T) (old new : Standing S I O E) (status : ℕ) → length xs < 1
    → IsRunServed gives closes remaining input output errors [] catalog asked limits None old new status
    → AreAllServed gives closes remaining input output errors catalog asked limits (map f xs) old new status
of_none gives closes remaining input output errors catalog asked limits f [] old new status few run = run
of_none gives closes remaining input output errors catalog asked limits f (x ∷ xs) old new status few run = absurd (omega arith)

pub all_of_none : {T S F I O E : Type 0} (gives : Giving S F) (closes : Closing S F) (remaining : F → Option (List ℕ)) (input : InputOf I) (output : OutputOf O) (errors : OutputOf E)
    (catalog : List Shared) (asked : Task) (limits : Limits) (f : T → Text) (items xs : List T) (old new : Standing S I O E) (status : ℕ) → xs ≡ items → length xs < 1
    → IsRunServed gives closes remaining input output errors [] catalog asked limits None old new status
    → AreAllServed gives closes remaining input output errors catalog asked limits (map f items) old new status
all_of_none {T} gives closes remaining input output errors catalog asked limits f items xs old new status same few run =
    subst (λ (l : List T). AreAllServed gives closes remaining input output errors catalog asked limits (map f l) old new status) same
    (of_none gives closes remaining input output errors catalog asked limits f xs old new status few run)

of_one : {T S F I O E : Type 0} (gives : Giving S F) (closes : Closing S F) (remaining : F → Option (List ℕ)) (input : InputOf I) (output : OutputOf O) (errors : OutputOf E)
    (catalog : List Shared) (asked : Task) (limits : Limits) (f : T → Text) (xs : List T) (x : T) (old new : Standing S I O E) (status : ℕ) → length xs ≡ 1 → x ≡ get_or xs 0 x
    → IsRunServed gives closes remaining input output errors [] catalog asked limits (file_for (f x)) old new status
    → AreAllServed gives closes remaining input output errors catalog asked limits (map f xs) old new status
of_one gives closes remaining input output errors catalog asked limits f [] x old new status one is run = absurd (omega arith)
of_one {T} gives closes remaining input output errors catalog asked limits f (y ∷ []) x old new status one is run =
    subst (λ (z : T). IsRunServed gives closes remaining input output errors [] catalog asked limits (file_for (f z)) old new status) is run
of_one gives closes remaining input output errors catalog asked limits f (y ∷ z ∷ zs) x old new status one is run = absurd (omega arith)

pub all_of_one : {T S F I O E : Type 0} (gives : Giving S F) (closes : Closing S F) (remaining : F → Option (List ℕ)) (input : InputOf I) (output : OutputOf O) (errors : OutputOf E)
    (catalog : List Shared) (asked : Task) (limits : Limits) (f : T → Text) (items xs : List T) (x : T) (spelled : Text) (name : Option Text) (old new : Standing S I O E) (status : ℕ)
    → xs ≡ items → length xs ≡ 1 → x ≡ get_or xs 0 x → spelled ≡ f x → name ≡ file_for spelled
    → IsRunServed gives closes remaining input output errors [] catalog asked limits name old new status
    → AreAllServed gives closes remaining input output errors catalog asked limits (map f items) old new status
all_of_one {T} gives closes remaining input output errors catalog asked limits f items xs x spelled name old new status same one is spells named run =
    subst (λ (l : List T). AreAllServed gives closes remaining input output errors catalog asked limits (map f l) old new status) same
    (of_one gives closes remaining input output errors catalog asked limits f xs x old new status one is
    (subst (λ (n : Option Text). IsRunServed gives closes remaining input output errors [] catalog asked limits n old new status) (named ∙ ap file_for spells) run))

several : {T S F I O E : Type 0} (gives : Giving S F) (closes : Closing S F) (remaining : F → Option (List ℕ)) (input : InputOf I) (output : OutputOf O) (errors : OutputOf E)
    (catalog : List Shared) (asked : Task) (limits : Limits) (f : T → Text) (xs : List T) (old new : Standing S I O E) (status : ℕ) → 2 ≤ length xs
    → AreServed gives closes remaining input output errors catalog asked limits (map f xs) old new status
    → (output.observable old.output → IsInTurn gives closes remaining input output errors catalog asked limits (map f xs) old new)
    → AreAllServed gives closes remaining input output errors catalog asked limits (map f xs) old new status
several gives closes remaining input output errors catalog asked limits f [] old new status many served parts = absurd (omega arith)
several gives closes remaining input output errors catalog asked limits f (x ∷ []) old new status many served parts = absurd (omega arith)
several gives closes remaining input output errors catalog asked limits f (x ∷ y ∷ zs) old new status many served parts = (served, parts)

pub all_of_several : {T S F I O E : Type 0} (gives : Giving S F) (closes : Closing S F) (remaining : F → Option (List ℕ)) (input : InputOf I) (output : OutputOf O) (errors : OutputOf E)
    (catalog : List Shared) (asked : Task) (limits : Limits) (f : T → Text) (items xs : List T) (old new : Standing S I O E) (status : ℕ) → xs ≡ items → 2 ≤ length xs
    → AreServed gives closes remaining input output errors catalog asked limits (map f items) old new status
    → (output.observable old.output → IsInTurn gives closes remaining input output errors catalog asked limits (map f items) old new)
    → AreAllServed gives closes remaining input output errors catalog asked limits (map f items) old new status
all_of_several {T} gives closes remaining input output errors catalog asked limits f items xs old new status same many served parts =
    several gives closes remaining input output errors catalog asked limits f items old new status (subst (λ (l : List T). 2 ≤ length l) same many) served parts
