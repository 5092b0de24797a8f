use Rattle.std.proofs.Common.{arith}
use Rattle.std.proofs.lemmas.Grind.{common_steps}
use Rattle.ion_value.proofs.timestamp.Timestamp.on.Goals as goal

pub returns-clause-date : goal.returns-clause-date
returns-clause-date c = grind (arith, common_steps)
