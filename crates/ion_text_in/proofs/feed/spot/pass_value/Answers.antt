use Rattle.std.proofs.Common.{arith}
use Rattle.std.proofs.lemmas.Grind.{common_steps}
use Rattle.ion_text_in.proofs.feed.spot.pass_value.Goals as goal

pub returns-in-Some : goal.returns-in-Some
returns-in-Some c = grind (arith, common_steps) steps 400000

pub returns-in-None : goal.returns-in-None
returns-in-None c = grind (arith, common_steps) steps 400000
