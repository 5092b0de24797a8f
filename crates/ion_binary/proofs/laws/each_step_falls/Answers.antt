use Rattle.ion_binary.proofs.Termination.{step-shrinks}
use Rattle.ion_binary.proofs.laws.each_step_falls.Goals as goal

pub returns : goal.returns
returns c = step-shrinks
