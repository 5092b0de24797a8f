use Rattle.std.proofs.Common.{arith}
use Rattle.std.proofs.lemmas.Grind.{common_steps}
use Rattle.ion_symbols.proofs.catalog_builder.CatalogBuilderValueWriter.take_plain.Goals as goal

pub returns-clause-charges : goal.returns-clause-charges
returns-clause-charges g c = grind (arith, common_steps)
