use Rattle.std.proofs.Common.{arith}
use Rattle.std.proofs.lemmas.Grind.{common_steps}
use Rattle.ion_value.proofs.timestamp_text.is_date.Goals as goal

pub returns : goal.returns
returns c = grind (arith, common_steps)

pub returns-then-year-lt1 : goal.returns-then-year-lt1
returns-then-year-lt1 c = grind (arith, common_steps)

pub returns-then-day-le28 : goal.returns-then-day-le28
returns-then-day-le28 c = grind (arith, common_steps)
