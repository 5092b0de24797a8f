use Rattle.std.proofs.Common.{arith}
use Rattle.std.proofs.lemmas.Grind.{common_steps}
use Rattle.ion_meter.proofs.copy.copy_ends.Goals as goal

pub returns : goal.returns
returns g c = grind (arith, common_steps)

pub copy_from_slice-requires-3 : goal.copy_from_slice-requires-3
copy_from_slice-requires-3 g c = grind (arith, common_steps)
