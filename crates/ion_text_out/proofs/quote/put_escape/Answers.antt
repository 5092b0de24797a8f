use Rattle.ion_text_out.proofs.Below.{arith, common_steps}
use Rattle.ion_text_out.proofs.quote.put_escape.Goals as goal

pub returns-in-None : goal.returns-in-None
returns-in-None g c = grind (arith, common_steps)

pub returns-then-byte-quote : goal.returns-then-byte-quote
returns-then-byte-quote g c = grind (arith, common_steps)

pub returns-in-Some : goal.returns-in-Some
returns-in-Some g c = grind (arith, common_steps)

pub put-requires-in-None : goal.put-requires-in-None
put-requires-in-None g c = grind (arith, common_steps)
