use Rattle.ion_text_out.proofs.Below.{arith, common_steps}
use Rattle.ion_text_out.proofs.between.after_end.Goals as goal

pub returns-else-kinds-eq1 : goal.returns-else-kinds-eq1
returns-else-kinds-eq1 c = grind (arith, common_steps)

pub returns-then-kinds-eq1 : goal.returns-then-kinds-eq1
returns-then-kinds-eq1 c = grind (arith, common_steps)
