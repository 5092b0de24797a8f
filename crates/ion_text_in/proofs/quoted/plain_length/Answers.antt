use Rattle.std.proofs.Common.{◌+◌, ◌∙◌, slice_index, sym, arith}
use Rattle.std.proofs.lemmas.Grind.{common_steps}
use lib.Count.{count_trailing_zeros}
use Rattle.ion_text_in.specs.Scanning.{is_plain_byte}
use Rattle.ion_text_in.specs.Quotes.{quote_of}
use Rattle.ion_text_in.proofs.Suspects.{over-block, to-suspect, over-one, at-other, suspect-other}
use Rattle.ion_text_in.proofs.quoted.plain_length.Goals.{then-byte-ge32-via-then-byte-ge32, then-byte-ge32-via-else-byte-ge32+then-not-is_plain_alone}
use Rattle.ion_text_in.proofs.quoted.plain_length.Goals as goal

pub skip-preserved-then-suspects-eq0 : goal.skip-preserved-then-suspects-eq0
skip-preserved-then-suspects-eq0 c = record {
  within = omega (arith, c.skip-test.true);
  plain = over-block c.args.quote c.args.bytes.now c.skip.at c.suspects-suspects.result (rw (c.mark-mark.ensures, c.in_clob-in_clob.ensures) at c.suspects-suspects.ensures) c.skip.invariant.plain c.if-suspects-eq0.true;
}

pub bounds-bytes-next : goal.bounds-bytes-next
bounds-bytes-next c = (to-suspect c.args.quote c.args.bytes.now c.skip.at c.suspects-suspects.result (rw (c.mark-mark.ensures, c.in_clob-in_clob.ensures) at c.suspects-suspects.ensures) (omega (arith, c.skip-test.true)) c.skip.invariant.plain c.if-suspects-eq0.false).0

pub skip-preserved : goal.skip-preserved
skip-preserved c =
    let run = to-suspect c.args.quote c.args.bytes.now c.skip.at c.suspects-suspects.result (rw (c.mark-mark.ensures, c.in_clob-in_clob.ensures) at c.suspects-suspects.ensures) (omega (arith, c.skip-test.true)) c.skip.invariant.plain c.if-suspects-eq0.false in
    record {
      within = omega (arith, run.0);
      plain = over-one (is_plain_byte (quote_of c.args.quote)) c.args.bytes.now (c.skip.at + count_trailing_zeros 64 c.suspects-suspects.result) run.0 run.1 (sym c.is_plain_alone.ensures ∙ c.if-not-is_plain_alone.false);
    }

pub returns-then-byte-ge32-clause-within : goal.returns-then-byte-ge32-clause-within
returns-then-byte-ge32-clause-within c =
    let run = to-suspect c.args.quote c.args.bytes.now c.skip.at c.suspects-suspects.result (rw (c.mark-mark.ensures, c.in_clob-in_clob.ensures) at c.suspects-suspects.ensures) (omega (arith, c.skip-test.true)) c.skip.invariant.plain c.if-suspects-eq0.false in
    omega (arith, run.0)

pub returns-then-byte-ge32-clause-plain : goal.returns-then-byte-ge32-clause-plain
returns-then-byte-ge32-clause-plain c =
    (to-suspect c.args.quote c.args.bytes.now c.skip.at c.suspects-suspects.result (rw (c.mark-mark.ensures, c.in_clob-in_clob.ensures) at c.suspects-suspects.ensures) (omega (arith, c.skip-test.true)) c.skip.invariant.plain c.if-suspects-eq0.false).1

pub returns-then-byte-ge32-clause-ends : goal.returns-then-byte-ge32-clause-ends
returns-then-byte-ge32-clause-ends c =
    let run = to-suspect c.args.quote c.args.bytes.now c.skip.at c.suspects-suspects.result (rw (c.mark-mark.ensures, c.in_clob-in_clob.ensures) at c.suspects-suspects.ensures) (omega (arith, c.skip-test.true)) c.skip.invariant.plain c.if-suspects-eq0.false in
    at-other (is_plain_byte (quote_of c.args.quote)) c.args.bytes.now (c.skip.at + count_trailing_zeros 64 c.suspects-suspects.result) run.0 (elim c.then-byte-ge32.branch [
      | then-byte-ge32-via-then-byte-ge32 w ↦ suspect-other c.args.quote (slice_index c.args.bytes.now (c.skip.at + count_trailing_zeros 64 c.suspects-suspects.result)) run.2 w.if-byte-ge32.true
      | then-byte-ge32-via-else-byte-ge32+then-not-is_plain_alone w ↦ sym w.is_plain_alone.ensures ∙ w.if-not-is_plain_alone.true
    ])

pub few-preserved : goal.few-preserved
few-preserved c = grind (arith, common_steps)
