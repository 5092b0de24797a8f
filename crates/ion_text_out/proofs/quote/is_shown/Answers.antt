use Rattle.ion_text_out.proofs.Below.{arith, common_steps}
use Rattle.ion_text_out.proofs.quote.is_shown.Goals as goal

pub returns-else-byte-quote : goal.returns-else-byte-quote
returns-else-byte-quote c = grind (arith, common_steps)
