use Rattle.ion_binary.proofs.Stable.{stable}
use Rattle.ion_binary.proofs.Termination.{step-shrinks}
use Rattle.ion_binary.proofs.laws.refusals_are_stable.Goals as goal

pub returns : goal.returns
returns c = stable step-shrinks
