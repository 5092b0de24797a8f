use Rattle.ion_binary.proofs.Bodies.{bodies}
use Rattle.ion_binary.proofs.Refused as whole
use Rattle.ion_binary.proofs.Termination.{step-shrinks}
use Rattle.ion_binary.proofs.laws.rightly_refused.Goals as goal

pub returns : goal.returns
returns c = whole.rightly_refused bodies step-shrinks
