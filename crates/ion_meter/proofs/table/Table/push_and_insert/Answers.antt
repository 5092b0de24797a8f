use Rattle.std.proofs.Common.{arith}
use Rattle.std.proofs.lemmas.Grind.{common_steps}
use Rattle.ion_meter.proofs.table.Table.push_and_insert.Goals as goal

pub returns-clause-cost : goal.returns-clause-cost
returns-clause-cost g c = grind (arith, common_steps) steps 400000

pub returns-clause-inserted : goal.returns-clause-inserted
returns-clause-inserted g c = grind (arith, common_steps)

pub returns-clause-same_cost : goal.returns-clause-same_cost
returns-clause-same_cost g c = grind (arith, common_steps)

pub returns-clause-same_other_cost : goal.returns-clause-same_other_cost
returns-clause-same_other_cost g c = grind (arith, common_steps)

pub add-requires : goal.add-requires
add-requires g c = grind (arith, common_steps)

pub returns-clause-added : goal.returns-clause-added
returns-clause-added g c = grind (arith, common_steps)

pub push_reserved-requires : goal.push_reserved-requires
push_reserved-requires g c = grind (arith, common_steps)

pub bounds-after-0 : goal.bounds-after-0
bounds-after-0 g c = grind (arith, common_steps)

pub copy_within-requires-clause-dest_in_bounds : goal.copy_within-requires-clause-dest_in_bounds
copy_within-requires-clause-dest_in_bounds g c = grind (arith, common_steps)

pub returns-then-is_err-clause-err : goal.returns-then-is_err-clause-err
returns-then-is_err-clause-err g c = grind (arith, common_steps)

pub offset_bounds-deref_mut-place : goal.offset_bounds-deref_mut-place
offset_bounds-deref_mut-place g c = grind (arith, common_steps)

pub overflow_sub-moved : goal.overflow_sub-moved
overflow_sub-moved g c = grind (arith, common_steps)

pub slice_bounds-after-start : goal.slice_bounds-after-start
slice_bounds-after-start g c = grind (arith, common_steps)

pub slice_bounds-after-count : goal.slice_bounds-after-count
slice_bounds-after-count g c = grind (arith, common_steps)

pub returns-then-is_err-clause-same_other_cost : goal.returns-then-is_err-clause-same_other_cost
returns-then-is_err-clause-same_other_cost g c = grind (arith, common_steps)

pub returns-then-is_err-clause-same_cost : goal.returns-then-is_err-clause-same_cost
returns-then-is_err-clause-same_cost g c = grind (arith, common_steps)
