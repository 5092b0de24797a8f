-- What scanners say of a slice: of the bytes that stand in a window, whatever bytes follow them.
use Rattle.std.specs.Prelude.{◌≡◌, ℕ, ◌+◌, ◌≤◌, List, ◌++◌, length, drop, Result, Ok, Err}
use Rattle.ion_meter.specs.declared.fault.Reason.{Reason}
use Rattle.ion_meter.specs.Sources.{Cursor}
use Rattle.ion_text_in.specs.declared.scanned.Scanned.{Scanned}
use Rattle.ion_text_in.specs.declared.scanned.Scanned.TheVariants.{Whole, Fault, Cut}
use Rattle.ion_text_in.specs.Meaning.{at}

-- reading gives the same from wherever the slice stands and whatever stands after it
abbrev pub Shows : {T A : Type 0} → (T → A) → List ℕ → Scanned T → (Cursor → Result (A × Cursor) Reason) → Type 0
Shows view bytes (Whole x n) reading =
    (n ≤ length bytes) × ((place : ℕ) (more : List ℕ) → reading (at place (bytes ++ more)) ≡ Ok (view x, at (place + n) (drop n bytes ++ more)))
Shows view bytes (Fault reason) reading = (place : ℕ) (more : List ℕ) → reading (at place (bytes ++ more)) ≡ Err reason
Shows view bytes Cut reading = Unit {0}
