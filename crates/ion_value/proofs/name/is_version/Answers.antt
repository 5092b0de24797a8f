use Rattle.std.proofs.Common.{arith}
use Rattle.std.proofs.lemmas.Grind.{common_steps}
use Rattle.ion_value.proofs.name.is_version.Goals as goal

pub returns-in-36 : goal.returns-in-36
returns-in-36 c = grind (arith, common_steps)
