use Rattle.ion_text_out.proofs.Below.{arith, common_steps}
use Rattle.ion_text_out.proofs.item.put_last.Goals as goal

pub returns-in-End : goal.returns-in-End
returns-in-End g c = grind (arith, common_steps)

pub returns-in-Begin : goal.returns-in-Begin
returns-in-Begin g c = grind (arith, common_steps)
