use Rattle.ion_text_out.proofs.Below.{arith, common_steps}
use Rattle.ion_text_out.proofs.writer.LaidOut.settle.Goals as goal

pub returns-in-End-clause-opens : goal.returns-in-End-clause-opens
returns-in-End-clause-opens g c = grind (arith, common_steps) steps 400000

pub returns-in-End-clause-stepped : goal.returns-in-End-clause-stepped
returns-in-End-clause-stepped g c = grind (arith, common_steps)

pub returns-in_default-push-clause-stepped : goal.returns-in_default-push-clause-stepped
returns-in_default-push-clause-stepped g c = grind (arith, common_steps)

pub returns-in_default-push-clause-opens : goal.returns-in_default-push-clause-opens
returns-in_default-push-clause-opens g c = grind (arith, common_steps)

pub returns-in-Err : goal.returns-in-Err
returns-in-Err g c = record {
  opens = grind (arith, common_steps);
  memory = grind (arith, common_steps);
  refused = grind (arith, common_steps);
  counted = grind (arith, common_steps);
  stepped = grind (arith, common_steps);
}

pub returns-in-End-clause-counted : goal.returns-in-End-clause-counted
returns-in-End-clause-counted g c = grind (arith, common_steps)

pub returns-in_default-push-clause-counted : goal.returns-in_default-push-clause-counted
returns-in_default-push-clause-counted g c = grind (arith, common_steps)

pub returns-in-Marker-clause-stepped : goal.returns-in-Marker-clause-stepped
returns-in-Marker-clause-stepped g c = grind (arith, common_steps)

pub returns-in-Marker-clause-opens : goal.returns-in-Marker-clause-opens
returns-in-Marker-clause-opens g c = grind (arith, common_steps)
