use Rattle.ion_text_out.proofs.Below.{arith, common_steps}
use Rattle.ion_text_out.proofs.between.innermost.Goals as goal

pub returns : goal.returns
returns c = grind (arith, common_steps) steps 400000
