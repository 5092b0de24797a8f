use Rattle.ion_text_out.proofs.Below.{arith, common_steps}
use Rattle.ion_text_out.proofs.put.put_mark.Goals as goal

pub returns-in-len1 : goal.returns-in-len1
returns-in-len1 g c = grind (arith, common_steps)

pub returns-in-empty : goal.returns-in-empty
returns-in-empty g c = grind (arith, common_steps)

pub returns-in_default : goal.returns-in_default
returns-in_default g c = grind (arith, common_steps)

pub bounds-mark-0 : goal.bounds-mark-0
bounds-mark-0 g c = grind (arith, common_steps)
