use Rattle.ion_value.proofs.TextKinds.{timestamp-no_number}
use Rattle.ion_value.proofs.laws.no_number_is_a_timestamp.Goals as goal

pub returns : goal.returns
returns c = timestamp-no_number
