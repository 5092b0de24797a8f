use Rattle.ion_text_out.proofs.Below.{arith, common_steps}
use Rattle.ion_text_out.proofs.quote.few_in_string.Goals as goal

pub returns-then-not-is_string_byte : goal.returns-then-not-is_string_byte
returns-then-not-is_string_byte c = grind (arith, common_steps)

pub bytes-preserved : goal.bytes-preserved
bytes-preserved c = grind (arith, common_steps)

pub returns : goal.returns
returns c = grind (arith, common_steps)
