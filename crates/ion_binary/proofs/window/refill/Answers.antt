use Rattle.ion_binary.proofs.Below.{arith, length, common_steps, lent, lent-IsGiven}
use Rattle.ion_binary.proofs.ScannedParts.{lent-all}
use Rattle.ion_binary.proofs.window.refill.Goals as goal

pub returns-in-Err : goal.returns-in-Err
returns-in-Err g c = record {
  reads = grind (arith, common_steps);
  kept = c.in-Err.ensures.kept;
  more = λ u e. absurd (cc e);
  cut = grind (arith, common_steps);
}

pub returns-in-Ok-None : goal.returns-in-Ok-None
returns-in-Ok-None g c = record {
  reads = grind (arith, common_steps);
  kept = c.in-Ok-None.ensures.kept;
  more = λ u e. absurd (cc e);
  cut = λ t fault e reason at is. grind (arith, common_steps, lent-all g.I.Input c.args.source.now);
}

pub returns-in-Ok-Some : goal.returns-in-Ok-Some
returns-in-Ok-Some g c = record {
  reads = grind (arith, common_steps);
  kept = c.in-Ok-Some.ensures.kept;
  more = λ u e. grind (arith, common_steps, lent-IsGiven c.peek.new.self (length (lent c.args.source.now)));
  cut = λ t fault e. absurd (cc e);
}
