use Rattle.std.proofs.Common.{arith}
use Rattle.std.proofs.lemmas.Grind.{common_steps}
use Rattle.ion_tool.proofs.act.to_for.Goals as goal

pub returns-in-Show : goal.returns-in-Show
returns-in-Show c = grind (arith, common_steps) steps 400000

pub returns-in-Convert-Some-Binary : goal.returns-in-Convert-Some-Binary
returns-in-Convert-Some-Binary c = grind (arith, common_steps) steps 400000
