use Rattle.ion_binary.proofs.WrittenSpelled.{values_are_spelled}
use Rattle.ion_binary.proofs.laws.values_are_spelled.Goals as goal

pub returns : goal.returns
returns c = values_are_spelled
