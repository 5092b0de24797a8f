use Rattle.std.proofs.Common.{arith}
use Rattle.std.proofs.lemmas.Grind.{common_steps}
use Rattle.ion_value.proofs.decimal_text.push_magnitude.Goals as goal

pub returns-then-exponent-geminus38 : goal.returns-then-exponent-geminus38
returns-then-exponent-geminus38 c = grind (arith, common_steps) steps 400000
