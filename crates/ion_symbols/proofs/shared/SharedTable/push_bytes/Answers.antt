use Rattle.std.proofs.Common.{arith}
use Rattle.std.proofs.lemmas.Grind.{common_steps}
use Rattle.ion_symbols.proofs.shared.SharedTable.push_bytes.Goals as goal

pub returns-in-None-clause-ok : goal.returns-in-None-clause-ok
returns-in-None-clause-ok g c = grind (arith, common_steps) steps 400000

pub returns-in-Some-clause-ok : goal.returns-in-Some-clause-ok
returns-in-Some-clause-ok g c = grind (arith, common_steps)

pub returns-in-None-clause-cost : goal.returns-in-None-clause-cost
returns-in-None-clause-cost g c = grind (arith, common_steps)

pub returns-in-None-clause-undone : goal.returns-in-None-clause-undone
returns-in-None-clause-undone g c = grind (arith, common_steps)

pub returns-in-Some-clause-undone : goal.returns-in-Some-clause-undone
returns-in-Some-clause-undone g c = grind (arith, common_steps)

pub returns-in-Some-clause-cost : goal.returns-in-Some-clause-cost
returns-in-Some-clause-cost g c = grind (arith, common_steps)
