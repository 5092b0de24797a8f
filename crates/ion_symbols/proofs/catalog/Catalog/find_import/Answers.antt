use Rattle.std.proofs.Common.{arith}
use Rattle.std.proofs.lemmas.Grind.{common_steps}
use Rattle.ion_symbols.proofs.catalog.Catalog.find_import.Goals as goal

pub returns-in-None-exact-2 : goal.returns-in-None-exact-2
returns-in-None-exact-2 g c = grind (arith, common_steps) steps 400000

pub returns-in-Some-exact-2 : goal.returns-in-Some-exact-2
returns-in-Some-exact-2 g c = grind (arith, common_steps)

pub returns-in-Some-exact : goal.returns-in-Some-exact
returns-in-Some-exact g c = grind (arith, common_steps)
