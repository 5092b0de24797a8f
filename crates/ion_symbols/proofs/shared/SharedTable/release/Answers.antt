use Rattle.std.proofs.Common.{arith}
use Rattle.std.proofs.lemmas.Grind.{common_steps}
use Rattle.ion_symbols.proofs.shared.SharedTable.release.Goals as goal

pub returns : goal.returns
returns g c = grind (arith, common_steps) steps 400000

pub release-requires-2 : goal.release-requires-2
release-requires-2 g c = grind (arith, common_steps)
