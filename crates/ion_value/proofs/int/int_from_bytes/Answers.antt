use Rattle.std.proofs.Common.{arith}
use Rattle.std.proofs.lemmas.Grind.{common_steps}
use Rattle.ion_value.proofs.int.int_from_bytes.Goals as goal

pub returns-clause-is : goal.returns-clause-is
returns-clause-is c = grind (arith, common_steps) steps 400000

pub returns-clause-valid : goal.returns-clause-valid
returns-clause-valid c = grind (arith, common_steps) steps 400000

pub returns-clause-zero : goal.returns-clause-zero
returns-clause-zero c = grind (arith, common_steps) steps 400000
