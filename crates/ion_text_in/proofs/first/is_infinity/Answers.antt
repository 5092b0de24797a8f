use Rattle.std.proofs.Common.{arith}
use Rattle.std.proofs.lemmas.Grind.{common_steps}
use Rattle.ion_text_in.proofs.first.is_infinity.Goals as goal

pub returns-in-105-clause-shows : goal.returns-in-105-clause-shows
returns-in-105-clause-shows c = grind (arith, common_steps)

pub returns-in_default-clause-shows : goal.returns-in_default-clause-shows
returns-in_default-clause-shows c = grind (arith, common_steps)

pub returns-in_default-2-clause-shows : goal.returns-in_default-2-clause-shows
returns-in_default-2-clause-shows c = grind (arith, common_steps)

pub returns-in_default-3-clause-shows : goal.returns-in_default-3-clause-shows
returns-in_default-3-clause-shows c = grind (arith, common_steps)

pub returns-in_default-4-clause-shows : goal.returns-in_default-4-clause-shows
returns-in_default-4-clause-shows c = grind (arith, common_steps)

pub returns-in_default-5-clause-shows : goal.returns-in_default-5-clause-shows
returns-in_default-5-clause-shows c = grind (arith, common_steps)

pub returns-in_default-6-clause-shows : goal.returns-in_default-6-clause-shows
returns-in_default-6-clause-shows c = grind (arith, common_steps)

pub returns-in_default-7-clause-shows : goal.returns-in_default-7-clause-shows
returns-in_default-7-clause-shows c = grind (arith, common_steps)

pub returns-in_default-8-clause-shows : goal.returns-in_default-8-clause-shows
returns-in_default-8-clause-shows c = grind (arith, common_steps)

pub returns-in_default-9-clause-shows : goal.returns-in_default-9-clause-shows
returns-in_default-9-clause-shows c = grind (arith, common_steps)
