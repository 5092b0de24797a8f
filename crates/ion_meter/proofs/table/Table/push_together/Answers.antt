use Rattle.std.proofs.Common.{arith}
use Rattle.std.proofs.lemmas.Grind.{common_steps}
use Rattle.ion_meter.proofs.table.Table.push_together.Goals as goal

pub returns-clause-bytes : goal.returns-clause-bytes
returns-clause-bytes g c = grind (arith, common_steps) steps 400000

pub returns-clause-declines : goal.returns-clause-declines
returns-clause-declines g c = grind (arith, common_steps)

pub returns-then-not-extend_both_if_room-clause-declines : goal.returns-then-not-extend_both_if_room-clause-declines
returns-then-not-extend_both_if_room-clause-declines g c = grind (arith, common_steps)

pub returns-clause-cost : goal.returns-clause-cost
returns-clause-cost g c = grind (arith, common_steps)

pub returns-clause-same_cost : goal.returns-clause-same_cost
returns-clause-same_cost g c = grind (arith, common_steps)

pub returns-clause-same_other_cost : goal.returns-clause-same_other_cost
returns-clause-same_other_cost g c = grind (arith, common_steps)

pub add-requires : goal.add-requires
add-requires g c = grind (arith, common_steps)

pub returns-clause-items : goal.returns-clause-items
returns-clause-items g c = grind (arith, common_steps)

pub returns-clause-others : goal.returns-clause-others
returns-clause-others g c = grind (arith, common_steps)

pub overflow_add-others-inside : goal.overflow_add-others-inside
overflow_add-others-inside g c = grind (arith, common_steps)

pub returns-then-not-extend_both_if_room-clause-others : goal.returns-then-not-extend_both_if_room-clause-others
returns-then-not-extend_both_if_room-clause-others g c = grind (arith, common_steps)

pub returns-then-not-extend_both_if_room-clause-items : goal.returns-then-not-extend_both_if_room-clause-items
returns-then-not-extend_both_if_room-clause-items g c = grind (arith, common_steps)

pub returns-then-len-capacity-2-clause-others : goal.returns-then-len-capacity-2-clause-others
returns-then-len-capacity-2-clause-others g c = grind (arith, common_steps)

pub returns-then-len-capacity-2-clause-items : goal.returns-then-len-capacity-2-clause-items
returns-then-len-capacity-2-clause-items g c = grind (arith, common_steps)

pub returns-then-len-capacity-2-clause-declines : goal.returns-then-len-capacity-2-clause-declines
returns-then-len-capacity-2-clause-declines g c = grind (arith, common_steps)

pub returns-then-len-capacity-clause-others : goal.returns-then-len-capacity-clause-others
returns-then-len-capacity-clause-others g c = grind (arith, common_steps)

pub returns-then-len-capacity-clause-items : goal.returns-then-len-capacity-clause-items
returns-then-len-capacity-clause-items g c = grind (arith, common_steps)

pub returns-then-len-capacity-clause-declines : goal.returns-then-len-capacity-clause-declines
returns-then-len-capacity-clause-declines g c = grind (arith, common_steps)
