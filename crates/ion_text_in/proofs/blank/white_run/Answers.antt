use Rattle.std.proofs.Common.{arith}
use Rattle.std.proofs.lemmas.List.{take_rest}
use Rattle.ion_text_in.specs.Blanks.{is_white}
use Rattle.ion_text_in.proofs.Blocks.{run-after, run-block, run-found}
use Rattle.ion_text_in.proofs.blank.white_run.Goals as goal

pub skip-preserved : goal.skip-preserved
skip-preserved c = record {
  within = omega (arith, c.skip-test.true);
  run = run-block is_white c.args.bytes.now c.skip.at 16 c.no_white-others.result c.no_white-others.ensures (omega (arith, c.if-others-ne0.false)) c.skip.invariant.run;
}

pub returns-then-others-ne0 : goal.returns-then-others-ne0
returns-then-others-ne0 c =
    (run-found is_white c.args.bytes.now c.skip.at 16 c.no_white-others.result (omega (arith, c.skip-test.true)) (omega arith) c.no_white-others.ensures (omega (arith, c.if-others-ne0.true)) c.skip.invariant.run).0

pub returns : goal.returns
returns c = run-after is_white c.args.bytes.now c.skip.at c.few_white.result c.skip.invariant.within c.skip.invariant.run (rw (take_rest c.args.bytes.now c.skip.at) at c.few_white.ensures)
