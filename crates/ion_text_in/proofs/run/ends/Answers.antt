use Rattle.std.proofs.Common.{arith}
use Rattle.std.proofs.lemmas.Grind.{common_steps, elements}
use Rattle.ion_text_in.proofs.run.ends.Goals as goal

pub returns-in-empty-others : goal.returns-in-empty-others
returns-in-empty-others c = grind (arith, common_steps)

pub returns-else-next-eq47 : goal.returns-else-next-eq47
returns-else-next-eq47 c = grind (arith, elements)

pub returns-then-next-eq47 : goal.returns-then-next-eq47
returns-then-next-eq47 c = grind (arith, elements)
