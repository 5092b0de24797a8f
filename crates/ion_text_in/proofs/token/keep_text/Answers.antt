use Rattle.std.proofs.Common.{arith}
use Rattle.std.proofs.lemmas.Grind.{common_steps}
use Rattle.ion_text_in.proofs.token.keep_text.Goals as goal

pub returns-in_ok-extend-in-Text-clause-kept : goal.returns-in_ok-extend-in-Text-clause-kept
returns-in_ok-extend-in-Text-clause-kept g c = grind (arith, common_steps)
