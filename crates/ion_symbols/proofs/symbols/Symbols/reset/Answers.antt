use Rattle.std.proofs.Common.{arith}
use Rattle.std.proofs.lemmas.Grind.{common_steps}
use Rattle.ion_symbols.proofs.symbols.Symbols.reset.Goals as goal

pub returns-clause-table : goal.returns-clause-table
returns-clause-table g c = grind (arith, common_steps) steps 400000

pub returns-clause-cost : goal.returns-clause-cost
returns-clause-cost g c = grind (arith, common_steps) steps 400000

pub clear-requires-2 : goal.clear-requires-2
clear-requires-2 g c = grind (arith, common_steps)

pub clear-requires : goal.clear-requires
clear-requires g c = grind (arith, common_steps)

pub invariant_of-self : goal.invariant_of-self
invariant_of-self g c = grind (arith, common_steps)
