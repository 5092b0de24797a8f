use Rattle.ion_binary.proofs.Bodies.{bodies}
use Rattle.ion_binary.proofs.Complete as whole
use Rattle.ion_binary.proofs.Termination.{step-shrinks}
use Rattle.ion_binary.proofs.laws.one_stream.Goals as goal

pub returns : goal.returns
returns c = whole.one_stream bodies step-shrinks
