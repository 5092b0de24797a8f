use Rattle.std.proofs.Common.{arith}
use Rattle.std.proofs.lemmas.Grind.{common_steps}
use Rattle.ion_value.proofs.item.Item.head.Goals as goal

pub returns-in-Symbol : goal.returns-in-Symbol
returns-in-Symbol g c = grind (arith, common_steps) steps 400000
