-- What calls that read a value keep and move.
use Rattle.std.specs.Prelude.{◌+◌, ◌*◌, ◌<◌, ◌≤◌, List, ℕ, length, Result, OnOk}
use Rattle.ion_meter.specs.Counts.{Counts}
use Rattle.ion_meter.specs.declared.device.Input.{Ghosts as InputOf}
use Rattle.ion_meter.specs.declared.fault.Fault.{Fault}
use Rattle.ion_meter.specs.declared.profile.Rules.{Rules}
use Rattle.ion_meter.specs.Windows.{Incoming}
use Rattle.ion_value.specs.Shares.{Charges, ReadCauses, fault_of}
use Rattle.ion_meter.specs.Sources.{Exceeds, Stands, Moves}

-- whatever it answers, of a value with its annotations
pub record ReadsValue {I N T : Type 0} (device : InputOf I) (limits : Rules) (old new : Incoming I) (earlier later : Counts) (before text : List ℕ) (annotations : List N) (result : Result T Fault) : Type 0 where
  pub further : OnOk result (old.place < new.place)
  pub stands : OnOk result (Stands new)
  pub moves : Moves device old new
  pub causes : ReadCauses (fault_of result) earlier later (device.failure_count old.device) (device.failure_count new.device) (Exceeds device old)
  pub charges : Charges earlier later (length before) (16 * length annotations + length text) (2 * limits.scalar)
  pub share : (16 * length annotations ≤ limits.scalar) × (length text ≤ limits.scalar)
