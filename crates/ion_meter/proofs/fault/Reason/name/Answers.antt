use Rattle.std.proofs.Common.{arith}
use Rattle.std.proofs.lemmas.Grind.{common_steps}
use Rattle.ion_meter.proofs.fault.Reason.name.Goals as goal

pub returns-in-BadVar : goal.returns-in-BadVar
returns-in-BadVar c = grind (arith, common_steps) steps 400000
