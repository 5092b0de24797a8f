use Rattle.ion_binary.proofs.Bodies.{bodies}
use Rattle.ion_binary.proofs.PassedLimits as whole
use Rattle.ion_binary.proofs.Termination.{step-shrinks}
use Rattle.ion_binary.proofs.laws.passed_limits_stop.Goals as goal

pub returns : goal.returns
returns c = whole.passed_limits bodies step-shrinks
