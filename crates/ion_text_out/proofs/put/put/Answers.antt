use Rattle.ion_text_out.proofs.Below.{arith, common_steps}
use Rattle.ion_text_out.proofs.put.put.Goals as goal

pub returns : goal.returns
returns g c = grind (arith, common_steps)
