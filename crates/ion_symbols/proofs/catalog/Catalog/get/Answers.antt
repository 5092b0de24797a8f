use Rattle.std.proofs.Common.{arith}
use Rattle.std.proofs.lemmas.Grind.{elements}
use Rattle.ion_symbols.proofs.catalog.Catalog.get.Goals as goal

pub returns : goal.returns
returns g c = grind (arith, elements)
