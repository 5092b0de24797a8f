use Rattle.ion_binary.proofs.GivenIds.{ids_are_given}
use Rattle.ion_binary.proofs.laws.ids_are_given.Goals as goal

pub returns : goal.returns
returns c = ids_are_given
