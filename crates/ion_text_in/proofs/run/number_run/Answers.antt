use Rattle.std.proofs.Common.{sym, ◌∙◌, arith}
use lib.Count.{count_trailing_zeros}
use Rattle.ion_text_in.specs.Runs.{is_sure_in_number}
use Rattle.ion_text_in.proofs.Blocks.{run-front}
use Rattle.ion_text_in.proofs.SureRuns.{number-extent}
use Rattle.ion_text_in.proofs.run.number_run.Goals as goal

pub bounds-bytes-len : goal.bounds-bytes-len
bounds-bytes-len c =
    (run-front is_sure_in_number c.args.bytes.now 32 c.number_stops-stops.result (omega (arith, c.if-bytes-ge32.true)) (omega arith) c.number_stops-stops.ensures (omega (arith, c.if-stops-ne0.true))).1

pub returns-then-stops_number : goal.returns-then-stops_number
returns-then-stops_number c =
    let bytes = c.args.bytes.now in
    let bits = c.number_stops-stops.result in
    let at = run-front is_sure_in_number bytes 32 bits (omega (arith, c.if-bytes-ge32.true)) (omega arith) c.number_stops-stops.ensures (omega (arith, c.if-stops-ne0.true)) in
    number-extent bytes (count_trailing_zeros 64 bits) at.0 at.1 (sym c.stops_number.ensures ∙ c.if-stops_number.true)
