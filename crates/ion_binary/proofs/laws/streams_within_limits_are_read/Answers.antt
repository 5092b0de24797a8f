use Rattle.ion_binary.proofs.Bodies.{bodies}
use Rattle.ion_binary.proofs.Refused as whole
use Rattle.ion_binary.proofs.Termination.{step-shrinks}
use Rattle.ion_binary.proofs.laws.streams_within_limits_are_read.Goals as goal

pub returns : goal.returns
returns c = whole.streams_within_limits bodies step-shrinks
