use Rattle.std.proofs.Common.{arith}
use Rattle.std.proofs.lemmas.Grind.{common_steps}
use Rattle.ion_meter.proofs.stream.ToWriteOutput.write.Goals as goal

pub returns-in-Ok-clause-stuck : goal.returns-in-Ok-clause-stuck
returns-in-Ok-clause-stuck g c = grind (arith, common_steps) steps 400000

pub returns-in-Ok-2-clause-stuck : goal.returns-in-Ok-2-clause-stuck
returns-in-Ok-2-clause-stuck g c = grind (arith, common_steps)

pub returns-in-Ok-2-clause-moved : goal.returns-in-Ok-2-clause-moved
returns-in-Ok-2-clause-moved g c = grind (arith, common_steps)

pub returns-in-Ok-clause-moved : goal.returns-in-Ok-clause-moved
returns-in-Ok-clause-moved g c = grind (arith, common_steps)
