use Rattle.std.proofs.Common.{arith}
use Rattle.std.proofs.lemmas.Grind.{common_steps}
use Rattle.ion_symbols.proofs.catalog.Catalog.find.Goals as goal

pub returns-in_err-place : goal.returns-in_err-place
returns-in_err-place g c = grind (arith, common_steps) steps 400000

pub returns : goal.returns
returns g c = grind (arith, common_steps) steps 400000
