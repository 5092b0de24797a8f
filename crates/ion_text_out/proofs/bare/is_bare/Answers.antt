use Rattle.ion_text_out.proofs.Below.{arith, common_steps}
use Rattle.ion_text_out.proofs.bare.is_bare.Goals as goal

pub returns-else-all_identifier_bytes : goal.returns-else-all_identifier_bytes
returns-else-all_identifier_bytes c = grind (arith, common_steps)
