use Rattle.std.proofs.Common.{arith}
use Rattle.std.proofs.lemmas.Grind.{common_steps}
use Rattle.ion_value.proofs.timestamp.is_fraction.Goals as goal

pub returns-then-not-negative : goal.returns-then-not-negative
returns-then-not-negative c = grind (arith, common_steps) steps 400000
