use Rattle.std.proofs.Common.{arith}
use Rattle.std.proofs.lemmas.Grind.{common_steps}
use Rattle.ion_meter.proofs.table.Table.push.Goals as goal

pub returns-clause-ok : goal.returns-clause-ok
returns-clause-ok g c = grind (arith, common_steps) steps 400000

pub returns-in-Err-clause-err : goal.returns-in-Err-clause-err
returns-in-Err-clause-err g c = grind (arith, common_steps)

pub returns-in-Err-clause-same_cost : goal.returns-in-Err-clause-same_cost
returns-in-Err-clause-same_cost g c = grind (arith, common_steps)

pub returns-clause-same_cost : goal.returns-clause-same_cost
returns-clause-same_cost g c = grind (arith, common_steps)
