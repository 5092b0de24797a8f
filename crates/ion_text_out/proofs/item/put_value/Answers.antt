use Rattle.ion_text_out.proofs.Below.{arith, common_steps, put_cut, put_then}
use Rattle.ion_text_out.proofs.item.put_value.Goals as goal

pub returns-in-Err : goal.returns-in-Err
returns-in-Err g c = put_cut _ c.in-Err.is (rw c.after_name.ensures at c.put_marked.ensures)

pub returns-in-Err-put_annotations : goal.returns-in-Err-put_annotations
returns-in-Err-put_annotations g c = put_then c.in_default.is (rw c.after_name.ensures at c.put_marked.ensures) (put_cut _ c.in-Err-put_annotations.is c.put_annotations.ensures)

pub returns : goal.returns
returns g c = grind (arith, common_steps)

pub put_body-requires-clause-range : goal.put_body-requires-clause-range
put_body-requires-clause-range g c = grind (arith, common_steps)

pub put_body-requires-clause-well : goal.put_body-requires-clause-well
put_body-requires-clause-well g c = grind (arith, common_steps)

pub put_annotations-requires : goal.put_annotations-requires
put_annotations-requires g c = grind (arith, common_steps)
