use Rattle.std.proofs.Common.{arith}
use Rattle.std.proofs.lemmas.Grind.{common_steps}
use Rattle.ion_value.proofs.digits.appended.Goals as goal

pub returns-in-Some-checked_mul : goal.returns-in-Some-checked_mul
returns-in-Some-checked_mul g c = grind (arith, common_steps) steps 400000
