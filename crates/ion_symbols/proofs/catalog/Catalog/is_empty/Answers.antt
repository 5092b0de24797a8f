use Rattle.std.proofs.lemmas.Grind.{common_steps}
use Rattle.std.proofs.Common.{arith}
use Rattle.ion_symbols.proofs.catalog.Catalog.is_empty.Goals as goal

pub returns : goal.returns
returns g c = grind (arith, common_steps)
