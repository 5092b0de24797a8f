use Rattle.ion_binary.proofs.Bodies.{bodies}
use Rattle.ion_binary.proofs.laws.bodies_are_read.Goals as goal

pub returns : goal.returns
returns c = bodies
