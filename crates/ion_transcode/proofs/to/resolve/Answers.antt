use Rattle.std.proofs.Common.{arith}
use Rattle.std.proofs.lemmas.Grind.{common_steps}
use Rattle.ion_transcode.proofs.to.resolve.Goals as goal

pub returns-in-Text-Binary : goal.returns-in-Text-Binary
returns-in-Text-Binary c = grind (arith, common_steps) steps 400000

pub returns-in-Text-Binary-2 : goal.returns-in-Text-Binary-2
returns-in-Text-Binary-2 c = grind (arith, common_steps) steps 400000
