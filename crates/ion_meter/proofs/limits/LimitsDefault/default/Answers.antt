use Rattle.std.proofs.Common.{arith}
use Rattle.std.proofs.lemmas.Grind.{common_steps}
use Rattle.ion_meter.proofs.limits.LimitsDefault.default.Goals as goal

pub returns : goal.returns
returns c = grind (arith, common_steps) steps 400000
