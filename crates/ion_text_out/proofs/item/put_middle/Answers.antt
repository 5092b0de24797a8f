use Rattle.ion_text_out.proofs.Below.{arith, common_steps}
use Rattle.ion_text_out.proofs.item.put_middle.Goals as goal

pub returns-then-is_value : goal.returns-then-is_value
returns-then-is_value g c = grind (arith, common_steps)

pub returns-else-is_value : goal.returns-else-is_value
returns-else-is_value g c = grind (arith, common_steps)

pub put_value-requires-clause-range : goal.put_value-requires-clause-range
put_value-requires-clause-range g c = grind (arith, common_steps)

pub put_value-requires-clause-well : goal.put_value-requires-clause-well
put_value-requires-clause-well g c = grind (arith, common_steps)

pub put-requires : goal.put-requires
put-requires g c = grind (arith, common_steps)
