use Rattle.std.proofs.Common.{arith}
use Rattle.std.proofs.lemmas.Grind.{common_steps}
use Rattle.ion_meter.proofs.table.Table.extend.Goals as goal

pub returns-clause-ok : goal.returns-clause-ok
returns-clause-ok g c = grind (arith, common_steps) steps 400000

pub returns-then-is_err-clause-err : goal.returns-then-is_err-clause-err
returns-then-is_err-clause-err g c = grind (arith, common_steps)

pub add_each-requires : goal.add_each-requires
add_each-requires g c = grind (arith, common_steps)

pub returns-clause-same_cost : goal.returns-clause-same_cost
returns-clause-same_cost g c = grind (arith, common_steps)

pub returns-clause-cost : goal.returns-clause-cost
returns-clause-cost g c = grind (arith, common_steps)

pub returns-then-is_err-clause-same_cost : goal.returns-then-is_err-clause-same_cost
returns-then-is_err-clause-same_cost g c = grind (arith, common_steps)
