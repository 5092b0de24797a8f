use Rattle.std.proofs.Common.{arith}
use Rattle.std.proofs.lemmas.Grind.{common_steps}
use Rattle.ion_meter.proofs.table.Table.push_with.Goals as goal

pub returns-clause-bytes : goal.returns-clause-bytes
returns-clause-bytes g c = grind (arith, common_steps) steps 400000

pub returns-clause-cost : goal.returns-clause-cost
returns-clause-cost g c = grind (arith, common_steps) steps 400000

pub returns-then-not-extend_if_room-clause-declines : goal.returns-then-not-extend_if_room-clause-declines
returns-then-not-extend_if_room-clause-declines g c = grind (arith, common_steps)

pub returns-clause-declines : goal.returns-clause-declines
returns-clause-declines g c = grind (arith, common_steps)

pub returns-clause-same_cost : goal.returns-clause-same_cost
returns-clause-same_cost g c = grind (arith, common_steps)

pub add-requires : goal.add-requires
add-requires g c = grind (arith, common_steps)

pub returns-clause-items : goal.returns-clause-items
returns-clause-items g c = grind (arith, common_steps)

pub returns-then-not-extend_if_room-clause-items : goal.returns-then-not-extend_if_room-clause-items
returns-then-not-extend_if_room-clause-items g c = grind (arith, common_steps)
