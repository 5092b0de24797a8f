use Rattle.ion_text_out.proofs.Below.{arith, common_steps}
use Rattle.ion_text_out.proofs.writer.LaidOut.take.Goals as goal

pub returns-in-Err : goal.returns-in-Err
returns-in-Err g c = record {
  opens = grind (arith, common_steps);
  puts = grind (arith, common_steps);
  refuses = grind (arith, common_steps);
  memory = grind (arith, common_steps);
  causes = grind (arith, common_steps);
  stepped = grind (arith, common_steps);
}

pub returns-clause-opens : goal.returns-clause-opens
returns-clause-opens g c = grind (arith, common_steps)

pub returns-clause-refuses : goal.returns-clause-refuses
returns-clause-refuses g c = grind (arith, common_steps)

pub returns-clause-memory : goal.returns-clause-memory
returns-clause-memory g c = grind (arith, common_steps)

pub returns-clause-causes : goal.returns-clause-causes
returns-clause-causes g c = grind (arith, common_steps)

pub returns-clause-stepped : goal.returns-clause-stepped
returns-clause-stepped g c = grind (arith, common_steps)

pub settle-requires-clause-fits : goal.settle-requires-clause-fits
settle-requires-clause-fits g c = grind (arith, common_steps)

pub settle-requires-clause-can_step : goal.settle-requires-clause-can_step
settle-requires-clause-can_step g c = grind (arith, common_steps)

pub put_item-requires-clause-head : goal.put_item-requires-clause-head
put_item-requires-clause-head g c = grind (arith, common_steps)

pub put_item-requires-clause-range : goal.put_item-requires-clause-range
put_item-requires-clause-range g c = grind (arith, common_steps)
