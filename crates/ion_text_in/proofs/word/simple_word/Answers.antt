use Rattle.std.proofs.Common.{arith}
use Rattle.std.proofs.lemmas.Grind.{common_steps}
use Rattle.ion_text_in.proofs.word.simple_word.Goals as goal

pub returns-in-Whole-Name-default : goal.returns-in-Whole-Name-default
returns-in-Whole-Name-default c = grind (arith, common_steps) steps 400000
