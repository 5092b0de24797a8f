use Rattle.std.proofs.Common.{arith}
use Rattle.std.proofs.lemmas.Grind.{common_steps}
use Rattle.ion_text_in.specs.Token.{first_at}
use Rattle.ion_text_in.proofs.first.mark.Goals as goal

pub returns-in_default-clause-shows : goal.returns-in_default-clause-shows
unfolding first_at
returns-in_default-clause-shows c = grind (arith, common_steps)

pub returns-in_default-2-2-clause-shows : goal.returns-in_default-2-2-clause-shows
unfolding first_at
returns-in_default-2-2-clause-shows c = grind (arith, common_steps)

pub returns-in_default-2-clause-shows : goal.returns-in_default-2-clause-shows
unfolding first_at
returns-in_default-2-clause-shows c = grind (arith, common_steps)
