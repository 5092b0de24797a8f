use Rattle.std.proofs.Common.{arith}
use Rattle.std.proofs.lemmas.Grind.{common_steps}
use Rattle.ion_value.proofs.decimal.parts_read.Goals as goal

pub exponent_value-requires : goal.exponent_value-requires
exponent_value-requires c = grind (arith, common_steps) steps 400000

pub returns-in-Some : goal.returns-in-Some
returns-in-Some c = grind (arith, common_steps) steps 400000
