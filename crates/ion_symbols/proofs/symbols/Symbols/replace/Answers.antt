use Rattle.std.proofs.Common.{arith}
use Rattle.std.proofs.lemmas.Grind.{common_steps}
use Rattle.ion_symbols.proofs.symbols.Symbols.replace.Goals as goal

pub release-requires-2 : goal.release-requires-2
release-requires-2 g c = grind (arith, common_steps)

pub returns-clause-cost : goal.returns-clause-cost
returns-clause-cost g c = grind (arith, common_steps)

pub release-requires : goal.release-requires
release-requires g c = grind (arith, common_steps)

pub invariant_of-self : goal.invariant_of-self
invariant_of-self g c = grind (arith, common_steps)

pub returns-clause-table : goal.returns-clause-table
returns-clause-table g c = grind (arith, common_steps)
