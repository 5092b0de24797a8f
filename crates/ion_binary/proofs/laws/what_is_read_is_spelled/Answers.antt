use Rattle.ion_binary.proofs.Bodies.{bodies}
use Rattle.ion_binary.proofs.Termination.{step-shrinks}
use Rattle.ion_binary.proofs.Sound.{sound}
use Rattle.ion_binary.proofs.laws.what_is_read_is_spelled.Goals as goal

pub returns : goal.returns
returns c = sound bodies step-shrinks
