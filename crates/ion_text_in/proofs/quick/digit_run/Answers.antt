use Rattle.std.proofs.Common.{arith}
use Rattle.std.proofs.lemmas.List.{take_rest}
use Rattle.ion_value.specs.Digits.{is_digit}
use Rattle.ion_text_in.proofs.Blocks.{run-after, run-block, run-found, run-front}
use Rattle.ion_text_in.proofs.quick.digit_run.Goals as goal

pub skip-preserved : goal.skip-preserved
skip-preserved c = record {
  within = omega (arith, c.skip-test.true);
  run = run-block is_digit c.args.bytes.now c.skip.at 16 c.no_digits-others-in-skip.result c.no_digits-others-in-skip.ensures (omega (arith, c.if-others-ne0-2.false)) c.skip.invariant.run;
}

pub returns-then-others-ne0-2 : goal.returns-then-others-ne0-2
returns-then-others-ne0-2 c =
    (run-found is_digit c.args.bytes.now c.skip.at 16 c.no_digits-others-in-skip.result (omega (arith, c.skip-test.true)) (omega arith) c.no_digits-others-in-skip.ensures (omega (arith, c.if-others-ne0-2.true)) c.skip.invariant.run).0

pub returns : goal.returns
returns c = run-after is_digit c.args.bytes.now c.skip.at c.few_digits.result c.skip.invariant.within c.skip.invariant.run (rw (take_rest c.args.bytes.now c.skip.at) at c.few_digits.ensures)

pub returns-then-others-ne0 : goal.returns-then-others-ne0
returns-then-others-ne0 c =
    (run-front is_digit c.args.bytes.now 16 c.no_digits-others.result (omega arith) (omega arith) c.no_digits-others.ensures (omega (arith, c.if-others-ne0.true))).0
