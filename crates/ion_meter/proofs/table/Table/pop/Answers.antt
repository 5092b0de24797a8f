use Rattle.std.proofs.Common.{arith}
use Rattle.std.proofs.lemmas.Grind.{common_steps}
use Rattle.ion_meter.proofs.table.Table.pop.Goals as goal

pub returns-clause-cost : goal.returns-clause-cost
returns-clause-cost g c = grind (arith, common_steps) steps 400000

pub returns-clause-items : goal.returns-clause-items
returns-clause-items g c = grind (arith, common_steps)

pub give_back-requires : goal.give_back-requires
give_back-requires g c = grind (arith, common_steps)

pub returns-clause-same_cost : goal.returns-clause-same_cost
returns-clause-same_cost g c = grind (arith, common_steps)
