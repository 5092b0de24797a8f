-- What a call answers by what reading gives. Of a fault that is no refusal this says nothing: `Causes` does.
use Rattle.std.specs.Prelude.{◌≡◌, ℕ, Result, Ok, Err}
use Rattle.ion_meter.specs.declared.fault.Fault.{Fault}
use Rattle.ion_meter.specs.declared.fault.Fault.TheVariants.{Refused, Memory, ReadFault, WriteFault, InputLimit}
use Rattle.ion_meter.specs.declared.fault.Reason.{Reason}
use Rattle.ion_meter.specs.Sources.{Cursor}
use Rattle.ion_value.specs.Parts.{Placed}

-- a value and where the source stands after it, or the reason of a fault in a part at a place
abbrev pub Answers : {T A : Type 0} → (T → A) → Result T Fault → Cursor → ℕ → Result (A × Cursor) Reason → Type 0
Answers view (Ok x) after place given = given ≡ Ok (view x, after)
Answers view (Err (Refused reason at)) after place given = (given ≡ Err reason) × (at ≡ place)
Answers view (Err Memory) after place given = Unit {0}
Answers view (Err ReadFault) after place given = Unit {0}
Answers view (Err WriteFault) after place given = Unit {0}
Answers view (Err InputLimit) after place given = Unit {0}

-- the same where reading gives the place of each fault
abbrev pub AnswersPlaced : {T A : Type 0} → (T → A) → Result T Fault → Placed A → Type 0
AnswersPlaced view (Ok x) given = given ≡ Ok (view x)
AnswersPlaced view (Err (Refused reason at)) given = given ≡ Err (reason, at)
AnswersPlaced view (Err Memory) given = Unit {0}
AnswersPlaced view (Err ReadFault) given = Unit {0}
AnswersPlaced view (Err WriteFault) given = Unit {0}
AnswersPlaced view (Err InputLimit) given = Unit {0}

-- a value and where the source stands after it
abbrev pub AnswersAt : {T A : Type 0} → (T → A) → Result T Fault → Cursor → Placed (A × Cursor) → Type 0
AnswersAt view result after given = AnswersPlaced (λ x. (view x, after)) result given

-- the view of a number
abbrev pub itself : ℕ → ℕ
itself n = n
