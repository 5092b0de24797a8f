use Rattle.std.proofs.Common.{arith}
use Rattle.std.proofs.lemmas.Grind.{common_steps}
use Rattle.ion_meter.proofs.limits.Limits.check.Goals as goal

pub returns-then-self-3 : goal.returns-then-self-3
returns-then-self-3 c = grind (arith, common_steps) steps 1500000
