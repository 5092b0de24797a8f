use Rattle.std.proofs.Common.{arith}
use Rattle.std.proofs.lemmas.Grind.{common_steps}
use Rattle.ion_value.proofs.timestamp.minutes.Goals as goal

pub returns-clause-minutes : goal.returns-clause-minutes
returns-clause-minutes c = grind (arith, common_steps) steps 400000
