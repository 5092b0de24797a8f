use Rattle.std.proofs.Common.{arith}
use Rattle.std.proofs.lemmas.Grind.{common_steps}
use Rattle.ion_meter.proofs.roomy.move_up.Goals as goal

pub returns : goal.returns
returns c = grind (arith, common_steps) steps 1500000
