use Rattle.ion_binary.proofs.Bodies.{bodies}
use Rattle.ion_binary.proofs.Termination.{step-shrinks}
use Rattle.ion_binary.proofs.WrittenStream as whole
use Rattle.ion_binary.proofs.laws.what_is_written_is_within_limits.Goals as goal

pub returns : goal.returns
returns c = whole.what_is_written_is_within_limits bodies step-shrinks
