use Rattle.std.proofs.Common.{arith}
use Rattle.std.proofs.lemmas.Grind.{common_steps}
use Rattle.ion_text_in.proofs.piece.closes.Goals as goal

pub returns-in-39-matches : goal.returns-in-39-matches
returns-in-39-matches c = grind (arith, common_steps) steps 400000
