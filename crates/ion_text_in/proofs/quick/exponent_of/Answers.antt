use Rattle.std.proofs.Common.{arith}
use Rattle.std.proofs.lemmas.Grind.{common_steps}
use Rattle.ion_text_in.proofs.quick.exponent_of.Goals as goal

pub returns-then-below : goal.returns-then-below
returns-then-below c = grind (arith, common_steps) steps 400000

pub returns-else-below : goal.returns-else-below
returns-else-below c = grind (arith, common_steps)
