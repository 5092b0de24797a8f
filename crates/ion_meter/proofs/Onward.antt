-- Bytes that a loop puts in parts: what is put from here on of the rest makes the whole, from the start on.
use Rattle.std.proofs.Common.{◌≡◌, ℕ, List, [], ◌++◌, None, Result, Ok, Err, subst}
use Rattle.ion_meter.specs.declared.fault.Fault.{Fault}
use Rattle.ion_meter.specs.Windows.{Outgoing}
use Rattle.ion_meter.specs.Sinks.{HasPut}
use Rattle.ion_meter.proofs.Putting.{put_nothing, put_cut, put_then}

pub record Onward {O : Type 0} (written : O → List ℕ) (observable : O → Type 0) (failures : O → ℕ) (start now : Outgoing O) (whole rest : List ℕ) : Type 0 where
  pub well : now.fault ≡ None
  pub then : (new : Outgoing O) (result : Result (Unit {0}) Fault) → HasPut {T = Unit {0}} written observable failures now new result rest → HasPut {T = Unit {0}} written observable failures start new result whole

-- the rest said in another way
pub onward_as : {O : Type 0} {written : O → List ℕ} {observable : O → Type 0} {failures : O → ℕ} {start now : Outgoing O} {whole xs ys : List ℕ}
    → Onward written observable failures start now whole xs → xs ≡ ys → Onward written observable failures start now whole ys
onward_as {written} {observable} {failures} {start} {now} {whole} o e = subst (λ zs. Onward written observable failures start now whole zs) e o

-- a part is put
well_after : {O : Type 0} (written : O → List ℕ) (observable : O → Type 0) (failures : O → ℕ) (now new : Outgoing O) (x : Unit {0}) (first : Result (Unit {0}) Fault) (xs : List ℕ)
    → first ≡ Ok x → HasPut {T = Unit {0}} written observable failures now new first xs → new.fault ≡ None
well_after written observable failures now new x (Ok z) xs e p = p.well
well_after written observable failures now new x (Err f) xs e p = absurd (cc e)

pub onward_then : {O : Type 0} {written : O → List ℕ} {observable : O → Type 0} {failures : O → ℕ} {start now new : Outgoing O} {x : Unit {0}} {first : Result (Unit {0}) Fault} {whole xs ys : List ℕ}
    → Onward written observable failures start now whole (xs ++ ys) → first ≡ Ok x → HasPut {T = Unit {0}} written observable failures now new first xs
    → Onward written observable failures start new whole ys
onward_then o e p = record { well = well_after _ _ _ _ _ _ _ _ e p; then = λ last result q. o.then last result (put_then e p q) }

-- a part fails
pub onward_cut : {O : Type 0} {written : O → List ℕ} {observable : O → Type 0} {failures : O → ℕ} {start now new : Outgoing O} {f : Fault} {first : Result (Unit {0}) Fault} {whole xs : List ℕ} (ys : List ℕ)
    → Onward written observable failures start now whole (xs ++ ys) → first ≡ Err f → HasPut {T = Unit {0}} written observable failures now new first xs
    → HasPut {T = Unit {0}} written observable failures start new (Err f) whole
onward_cut ys o e p = o.then _ _ (put_cut ys e p)

-- nothing is left
pub onward_end : {O : Type 0} {written : O → List ℕ} {observable : O → Type 0} {failures : O → ℕ} {start now : Outgoing O} {whole : List ℕ} (x : Unit {0})
    → Onward written observable failures start now whole [] → HasPut {T = Unit {0}} written observable failures start now (Ok x) whole
onward_end {written} {observable} {failures} x o = o.then _ _ (put_nothing written observable failures x o.well)
