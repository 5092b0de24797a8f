use Rattle.ion_text_out.proofs.Below.{arith, common_steps}
use Rattle.ion_text_out.proofs.writer.LaidOutValueWriter.begin.Goals as goal

pub returns-in-Err : goal.returns-in-Err
returns-in-Err g c = record {
  sound = grind (arith, common_steps) steps 400000;
  stands = grind (arith, common_steps) steps 400000;
  puts = grind (arith, common_steps) steps 400000;
  part = grind (arith, common_steps) steps 400000;
  device = grind (arith, common_steps) steps 400000;
  steady = grind (arith, common_steps) steps 400000;
  passed = grind (arith, common_steps) steps 400000;
  failed = grind (arith, common_steps) steps 400000;
  limits = grind (arith, common_steps) steps 400000;
  own = grind (arith, common_steps) steps 400000;
  most = grind (arith, common_steps) steps 400000;
}

pub returns-in_default : goal.returns-in_default
returns-in_default g c = record {
  sound = grind (arith, common_steps) steps 400000;
  stands = grind (arith, common_steps) steps 400000;
  puts = grind (arith, common_steps) steps 400000;
  part = grind (arith, common_steps) steps 400000;
  device = grind (arith, common_steps) steps 400000;
  steady = grind (arith, common_steps) steps 400000;
  passed = grind (arith, common_steps) steps 400000;
  failed = grind (arith, common_steps) steps 400000;
  limits = grind (arith, common_steps) steps 400000;
  own = grind (arith, common_steps) steps 400000;
  most = grind (arith, common_steps) steps 400000;
}
