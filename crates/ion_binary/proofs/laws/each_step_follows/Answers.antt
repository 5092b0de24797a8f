use Rattle.ion_binary.proofs.Bodies.{bodies}
use Rattle.ion_binary.proofs.StepPreservesPath.{step-follows}
use Rattle.ion_binary.proofs.laws.each_step_follows.Goals as goal

pub returns : goal.returns
returns c = step-follows bodies
