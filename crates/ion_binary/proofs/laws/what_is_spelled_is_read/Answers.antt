use Rattle.ion_binary.proofs.Bodies.{bodies}
use Rattle.ion_binary.proofs.Complete as whole
use Rattle.ion_binary.proofs.Termination.{step-shrinks}
use Rattle.ion_binary.proofs.laws.what_is_spelled_is_read.Goals as goal

pub returns : goal.returns
returns c = whole.complete bodies step-shrinks
