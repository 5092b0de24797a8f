-- What calls that read a source into a buffer ask for, answer, keep and move.
use Rattle.std.specs.Prelude.{ℕ, ◌+◌, ◌-◌, ◌^◌, ◌<◌, ◌≤◌, List, length, Result, OnOk}
use Rattle.ion_meter.specs.Counts.{Counts}
use Rattle.ion_meter.specs.declared.device.Input.{Ghosts as InputOf}
use Rattle.ion_meter.specs.declared.fault.Fault.{Fault}
use Rattle.ion_meter.specs.declared.fault.Reason.{Reason}
use Rattle.ion_meter.specs.declared.profile.Rules.{Rules}
use Rattle.ion_meter.specs.Windows.{Incoming}
use Rattle.ion_meter.specs.Sources.{Cursor, cursor, Exceeds, Stands, Moves, Causes}
use Rattle.ion_value.specs.Shares.{Charges, ReadCauses, fault_of}
use Rattle.ion_value.specs.Answers.{Answers}

-- a call that may take so many counted bytes more may begin, the buffer being of this text
pub record CanRead {I : Type 0} (limits : Rules) (most : ℕ) (source : Incoming I) (text : List ℕ) (meter : Counts) : Type 0 where
  pub stands : Stands source
  pub holds : length text ≤ meter.held
  pub room : meter.held + most < 2 ^ 63
  pub countable : meter.refused < 2 ^ 64 - 1
  pub checked : limits.scalar ≤ 2 ^ 30
  pub share : length text ≤ limits.scalar

-- a call answers what reading gives from where its source stood, in a part at a place
abbrev pub AnswersBy : {I T A : Type 0} → InputOf I → (T → A) → Incoming I → Incoming I → ℕ → Result T Fault → (Cursor → Result (A × Cursor) Reason) → Type 0
AnswersBy device view old new place result reading =
    device.observable old.device → Answers view result (cursor device new) place (reading (cursor device old))

-- what a call keeps and moves whatever it answers, where it takes no memory
pub record Reads {I T : Type 0} (device : InputOf I) (old new : Incoming I) (result : Result T Fault) : Type 0 where
  pub stands : OnOk result (Stands new)
  pub moves : Moves device old new
  pub causes : Causes (fault_of result) (device.failure_count old.device) (device.failure_count new.device) (Exceeds device old)

-- and where it held some counted bytes before and some after, at most so many
pub record ReadsInto {I T : Type 0} (device : InputOf I) (old new : Incoming I) (earlier later : Counts) (before after most : ℕ) (result : Result T Fault) : Type 0 where
  pub stands : OnOk result (Stands new)
  pub moves : Moves device old new
  pub causes : ReadCauses (fault_of result) earlier later (device.failure_count old.device) (device.failure_count new.device) (Exceeds device old)
  pub charges : Charges earlier later before after most

-- how many bytes were passed over, of those within the limit
abbrev pub passed_over : {I : Type 0} → Incoming I → Incoming I → ℕ
passed_over old new = (old.limit - old.place) - (new.limit - new.place)
