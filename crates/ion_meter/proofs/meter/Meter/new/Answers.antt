use Rattle.std.proofs.Common.{arith}
use Rattle.std.proofs.lemmas.Grind.{common_steps}
use Rattle.ion_meter.proofs.meter.Meter.new.Goals as goal

pub returns-clause-peak : goal.returns-clause-peak
returns-clause-peak g c = grind (arith, common_steps) steps 400000
