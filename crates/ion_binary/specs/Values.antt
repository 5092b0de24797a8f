-- What contracts of the code say of a value after its field.
use Rattle.std.specs.Prelude.{ℕ, List, Option, Result}
use Rattle.ion_meter.specs.declared.fault.Fault.{Fault}
use Rattle.ion_value.specs.Value.{SymbolAt}
use Rattle.ion_value.specs.Reading.{Step}
use Rattle.ion_binary.specs.declared.body.Body.{Body}
use Rattle.ion_binary.specs.declared.value.TypedValue as typed
use Rattle.ion_binary.specs.Positions.{Frame, State}
use Rattle.ion_meter.specs.Sources.{Cursor}
use Rattle.ion_value.specs.Parts.{Placed}
use Rattle.ion_binary.specs.Reading.{step_for}
use Rattle.ion_binary.specs.Finds.{as_typed_value}
use Rattle.ion_value.specs.Answers.{AnswersPlaced}

-- what a call answers that reads a value: what it is and the place of its first octet, as the step that reading gives of it
abbrev pub GivesStep : List Frame → ℕ → Option SymbolAt → List SymbolAt → List ℕ → Body → Result (typed.TypedValue × ℕ) Fault → Cursor → Placed (Step State) → Type 0
GivesStep frames top f annotations text scalar result after s =
    AnswersPlaced (λ r. step_for frames top f annotations r.1 (as_typed_value text scalar r.0) after) result s
