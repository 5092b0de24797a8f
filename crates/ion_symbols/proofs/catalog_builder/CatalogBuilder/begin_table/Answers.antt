use Rattle.std.proofs.Common.{arith}
use Rattle.std.proofs.lemmas.Grind.{common_steps}
use Rattle.ion_symbols.proofs.catalog_builder.CatalogBuilder.begin_table.Goals as goal

pub returns-then-not-begins_struct-clause-gives : goal.returns-then-not-begins_struct-clause-gives
returns-then-not-begins_struct-clause-gives g c = grind (arith, common_steps)
