use Rattle.ion_text_out.proofs.Below.{arith, common_steps}
use Rattle.ion_text_out.proofs.item.put_first.Goals as goal

pub returns-in-Marker : goal.returns-in-Marker
returns-in-Marker g c = grind (arith, common_steps)

pub returns-in-End : goal.returns-in-End
returns-in-End g c = grind (arith, common_steps)
