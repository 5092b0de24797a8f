use Rattle.std.proofs.Common.{arith}
use Rattle.std.proofs.lemmas.Grind.{common_steps}
use Rattle.ion_value.proofs.timestamp_text.push_offset.Goals as goal

pub returns-in-None : goal.returns-in-None
returns-in-None c = grind (arith, common_steps) steps 400000

pub returns-after-minutes-lt0 : goal.returns-after-minutes-lt0
returns-after-minutes-lt0 c = grind (arith, common_steps)
