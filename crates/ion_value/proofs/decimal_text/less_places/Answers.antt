use Rattle.std.proofs.Common.{arith}
use Rattle.std.proofs.lemmas.Grind.{common_steps}
use Rattle.ion_value.proofs.decimal_text.less_places.Goals as goal

pub returns-then-exponent : goal.returns-then-exponent
returns-then-exponent c = grind (arith, common_steps)
