use Rattle.std.proofs.Common.{arith}
use Rattle.std.proofs.lemmas.Grind.{common_steps}
use Rattle.ion_symbols.proofs.catalog_builder.CatalogBuilder.name.Goals as goal

pub returns-clause-built : goal.returns-clause-built
returns-clause-built g c = grind (arith, common_steps) steps 400000

pub returns-in_default : goal.returns-in_default
returns-in_default g c = grind (arith, common_steps)

pub returns-then-not-is_empty-clause-gives : goal.returns-then-not-is_empty-clause-gives
returns-then-not-is_empty-clause-gives g c = grind (arith, common_steps)

pub put_name-requires-clause-room : goal.put_name-requires-clause-room
put_name-requires-clause-room g c = grind (arith, common_steps)

pub returns-then-not-fits-clause-built : goal.returns-then-not-fits-clause-built
returns-then-not-fits-clause-built g c = grind (arith, common_steps)

pub put_name-requires-clause-countable : goal.put_name-requires-clause-countable
put_name-requires-clause-countable g c = grind (arith, common_steps)

pub put_name-requires-clause-held : goal.put_name-requires-clause-held
put_name-requires-clause-held g c = grind (arith, common_steps)

pub returns-then-not-is_empty-clause-built : goal.returns-then-not-is_empty-clause-built
returns-then-not-is_empty-clause-built g c = grind (arith, common_steps)
