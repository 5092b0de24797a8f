use Rattle.std.proofs.Common.{arith}
use Rattle.std.proofs.lemmas.List.{take_rest}
use Rattle.ion_text_in.specs.Overrun.{is_neither}
use Rattle.ion_text_in.proofs.Blocks.{run-after, run-block, run-found}
use Rattle.ion_text_in.proofs.blank.run_without.Goals as goal

pub skip-preserved : goal.skip-preserved
skip-preserved c = record {
  within = omega (arith, c.skip-test.true);
  run = run-block (is_neither c.args.first c.args.second) c.args.bytes.now c.skip.at 32 c.found-found.result c.found-found.ensures (omega (arith, c.if-found-ne0.false)) c.skip.invariant.run;
}

pub returns-then-found-ne0 : goal.returns-then-found-ne0
returns-then-found-ne0 c =
    (run-found (is_neither c.args.first c.args.second) c.args.bytes.now c.skip.at 32 c.found-found.result (omega (arith, c.skip-test.true)) (omega arith) c.found-found.ensures (omega (arith, c.if-found-ne0.true)) c.skip.invariant.run).0

pub returns : goal.returns
returns c = run-after (is_neither c.args.first c.args.second) c.args.bytes.now c.skip.at c.few_without.result c.skip.invariant.within c.skip.invariant.run (rw (take_rest c.args.bytes.now c.skip.at) at c.few_without.ensures)
