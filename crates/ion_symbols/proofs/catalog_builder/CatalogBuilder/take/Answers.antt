use Rattle.std.proofs.Common.{arith}
use Rattle.std.proofs.lemmas.Grind.{common_steps}
use Rattle.ion_symbols.proofs.catalog_builder.CatalogBuilder.take.Goals as goal

pub returns-in-Symbols-2-clause-gives : goal.returns-in-Symbols-2-clause-gives
returns-in-Symbols-2-clause-gives g c = grind (arith, common_steps)

pub returns-then-self-gt0-clause-built : goal.returns-then-self-gt0-clause-built
returns-then-self-gt0-clause-built g c = grind (arith, common_steps)
