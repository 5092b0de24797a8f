use Rattle.ion_binary.proofs.Bodies.{bodies}
use Rattle.ion_binary.proofs.Termination.{step-shrinks}
use Rattle.ion_binary.proofs.WrittenResolved as resolved
use Rattle.ion_binary.proofs.laws.what_is_written_is_resolved.Goals as goal

pub returns : goal.returns
returns c = resolved.what_is_written_is_resolved bodies step-shrinks
