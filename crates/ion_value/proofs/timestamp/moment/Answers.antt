use Rattle.std.proofs.Common.{arith}
use Rattle.std.proofs.lemmas.Grind.{common_steps}
use Rattle.ion_value.proofs.timestamp.moment.Goals as goal

pub returns-then-not-calendar_has : goal.returns-then-not-calendar_has
returns-then-not-calendar_has c = grind (arith, common_steps)
