use Rattle.std.proofs.Common.{arith}
use Rattle.std.proofs.lemmas.Grind.{common_steps}
use Rattle.ion_symbols.proofs.symbols.Symbols.release.Goals as goal

pub release-requires : goal.release-requires
release-requires g c = grind (arith, common_steps)

pub release-requires-2 : goal.release-requires-2
release-requires-2 g c = grind (arith, common_steps)

pub returns : goal.returns
returns g c = grind (arith, common_steps) steps 400000
