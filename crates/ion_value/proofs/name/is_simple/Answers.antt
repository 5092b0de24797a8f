use Rattle.std.proofs.Common.{arith}
use Rattle.std.proofs.lemmas.Grind.{common_steps}
use Rattle.ion_value.proofs.name.is_simple.Goals as goal

pub returns-then-is_plain : goal.returns-then-is_plain
returns-then-is_plain c = grind (arith, common_steps) steps 400000

pub returns-else-is_plain : goal.returns-else-is_plain
returns-else-is_plain c = grind (arith, common_steps) steps 400000
