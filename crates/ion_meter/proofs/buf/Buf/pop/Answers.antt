use Rattle.std.proofs.Common.{arith}
use Rattle.std.proofs.lemmas.Grind.{common_steps}
use Rattle.ion_meter.proofs.buf.Buf.pop.Goals as goal

pub returns-clause-cost : goal.returns-clause-cost
returns-clause-cost g c = grind (arith, common_steps) steps 400000

pub returns-clause-bytes : goal.returns-clause-bytes
returns-clause-bytes g c = grind (arith, common_steps)

pub returns-in_default-clause-bytes : goal.returns-in_default-clause-bytes
returns-in_default-clause-bytes g c = grind (arith, common_steps)
