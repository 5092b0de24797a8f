use Rattle.std.proofs.Common.{arith}
use Rattle.std.proofs.lemmas.Grind.{common_steps}
use Rattle.ion_value.proofs.digit_text.push_byte.Goals as goal

pub returns-clause-len : goal.returns-clause-len
returns-clause-len c = grind (arith, common_steps)
