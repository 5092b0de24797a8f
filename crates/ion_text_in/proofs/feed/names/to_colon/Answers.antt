use Rattle.std.proofs.Common.{arith}
use Rattle.std.proofs.lemmas.Grind.{common_steps}
use Rattle.ion_text_in.proofs.feed.names.to_colon.Goals as goal

pub returns : goal.returns
returns c = grind (arith, common_steps) steps 400000

pub returns-then-shows_colon : goal.returns-then-shows_colon
returns-then-shows_colon c = grind (arith, common_steps) steps 400000
