use Rattle.std.proofs.Common.{arith}
use Rattle.std.proofs.lemmas.Grind.{common_steps}
use Rattle.ion_meter.proofs.sink.Sink.put_within.Goals as goal

pub returns : goal.returns
returns g c = grind (arith, common_steps) steps 1500000

pub invariant_of-self : goal.invariant_of-self
invariant_of-self g c = grind (arith, common_steps)
