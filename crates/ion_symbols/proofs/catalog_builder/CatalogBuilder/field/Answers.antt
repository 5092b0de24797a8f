use Rattle.std.proofs.Common.{arith}
use Rattle.std.proofs.lemmas.Grind.{common_steps}
use Rattle.ion_symbols.proofs.catalog_builder.CatalogBuilder.field.Goals as goal

pub returns-in-Imports-clause-gives : goal.returns-in-Imports-clause-gives
returns-in-Imports-clause-gives g c = grind (arith, common_steps) steps 400000

pub returns-in-Symbols-clause-gives : goal.returns-in-Symbols-clause-gives
returns-in-Symbols-clause-gives g c = grind (arith, common_steps)

pub returns-in-Name-clause-gives : goal.returns-in-Name-clause-gives
returns-in-Name-clause-gives g c = grind (arith, common_steps)

pub returns-in-Version-clause-gives : goal.returns-in-Version-clause-gives
returns-in-Version-clause-gives g c = grind (arith, common_steps)

pub returns-in_default-clause-gives : goal.returns-in_default-clause-gives
returns-in_default-clause-gives g c = grind (arith, common_steps)

pub returns-in_default-clause-built : goal.returns-in_default-clause-built
returns-in_default-clause-built g c = grind (arith, common_steps)

pub returns-in-Version-clause-built : goal.returns-in-Version-clause-built
returns-in-Version-clause-built g c = grind (arith, common_steps)

pub returns-in-Symbols-clause-built : goal.returns-in-Symbols-clause-built
returns-in-Symbols-clause-built g c = grind (arith, common_steps)
