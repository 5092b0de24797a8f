use Rattle.ion_binary.proofs.Bodies.{bodies}
use Rattle.ion_binary.proofs.Refused as whole
use Rattle.ion_binary.proofs.Termination.{step-shrinks}
use Rattle.ion_binary.proofs.laws.no_stream_begins.Goals as goal

pub returns : goal.returns
returns c = whole.no_stream_begins bodies step-shrinks
