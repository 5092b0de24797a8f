use Rattle.std.proofs.Common.{arith}
use Rattle.std.proofs.lemmas.Grind.{common_steps}
use Rattle.ion_transcode.proofs.run.bound.Goals as goal

pub returns-in-Some-Binary : goal.returns-in-Some-Binary
returns-in-Some-Binary c = grind (arith, common_steps) steps 400000
