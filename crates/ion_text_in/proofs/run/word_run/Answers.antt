use Rattle.std.proofs.Common.{◌+◌, refl, arith}
use lib.Count.{count_trailing_zeros}
use Rattle.ion_value.specs.Name.{is_identifier_byte}
use Rattle.ion_text_in.proofs.Blocks.{run-block, run-found, run-front}
use Rattle.ion_text_in.proofs.SureRuns.{word-extent}
use Rattle.ion_text_in.proofs.run.word_run.Goals as goal

pub returns-then-stops-ne0 : goal.returns-then-stops-ne0
returns-then-stops-ne0 c =
    let bits = c.word_stops-stops.result in
    let at = run-front is_identifier_byte c.args.bytes.now 16 bits (omega (arith, c.if-bytes-ge16.true)) (omega arith) c.word_stops-stops.ensures (omega (arith, c.if-stops-ne0.true)) in
    word-extent c.args.bytes.now (count_trailing_zeros 64 bits) at.0 at.1

pub returns-then-stops-ne0-2 : goal.returns-then-stops-ne0-2
returns-then-stops-ne0-2 c =
    let bytes = c.args.bytes.now in
    let bits = c.word_stops-stops-then-bytes-ge32.result in
    let before = run-block is_identifier_byte bytes 0 16 c.word_stops-stops.result c.word_stops-stops.ensures (omega (arith, c.if-stops-ne0.false)) refl in
    let at = run-found is_identifier_byte bytes 16 16 bits (omega (arith, c.if-bytes-ge32.true)) (omega arith) c.word_stops-stops-then-bytes-ge32.ensures (omega (arith, c.if-stops-ne0-2.true)) before in
    word-extent bytes (16 + count_trailing_zeros 64 bits) at.0 (omega (arith, at.1, c.if-bytes-ge32.true))
