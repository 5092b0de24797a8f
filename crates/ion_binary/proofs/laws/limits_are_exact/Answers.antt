use Rattle.ion_binary.proofs.Bodies.{bodies}
use Rattle.ion_binary.proofs.ExactLimits as whole
use Rattle.ion_binary.proofs.laws.limits_are_exact.Goals as goal

pub returns : goal.returns
returns c = whole.exact_limits bodies
