use Rattle.std.proofs.Common.{arith}
use Rattle.std.proofs.lemmas.Grind.{common_steps}
use Rattle.ion_symbols.proofs.user.UserReader.new.Goals as goal

pub returns-clause-ready : goal.returns-clause-ready
returns-clause-ready g c = grind (arith, common_steps) steps 400000

pub returns-clause-table : goal.returns-clause-table
returns-clause-table g c = grind (arith, common_steps) steps 400000
