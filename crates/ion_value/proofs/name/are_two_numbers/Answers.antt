use Rattle.std.proofs.Common.{arith}
use Rattle.std.proofs.lemmas.Grind.{common_steps}
use Rattle.ion_value.proofs.name.are_two_numbers.Goals as goal

pub returns-then-is_number : goal.returns-then-is_number
returns-then-is_number c = grind (arith, common_steps)
