use Rattle.ion_binary.proofs.Below.{arith, common_steps}
use Rattle.ion_binary.proofs.OpenSteps.{can-step-again}
use Rattle.ion_binary.proofs.open_value.OpenValue.end.Goals as goal

pub put_innermost-requires-in-Some-clause-can_step : goal.put_innermost-requires-in-Some-clause-can_step
put_innermost-requires-in-Some-clause-can_step g c =
    can-step-again c.args.limits c.args.self.now c.put_innermost.new.self c.args.meter.now c.put_innermost.new.meter c.requires.can_step c.in_default.ensures.stepped

pub returns-in-Some-clause-headers : goal.returns-in-Some-clause-headers
returns-in-Some-clause-headers g c = grind (arith, common_steps) steps 400000

pub returns-in-Some-clause-octets : goal.returns-in-Some-clause-octets
returns-in-Some-clause-octets g c = grind (arith, common_steps) steps 400000
