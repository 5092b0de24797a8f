use Rattle.std.proofs.Common.{arith}
use Rattle.std.proofs.lemmas.Grind.{common_steps}
use Rattle.ion_tool.proofs.words.action_of.Goals as goal

pub returns-in-convert-Some-text-true-false-clause-some : goal.returns-in-convert-Some-text-true-false-clause-some
returns-in-convert-Some-text-true-false-clause-some c = grind (arith, common_steps) steps 400000

pub returns-in-convert-Some-text-false-false-clause-some : goal.returns-in-convert-Some-text-false-false-clause-some
returns-in-convert-Some-text-false-false-clause-some c = grind (arith, common_steps) steps 400000
