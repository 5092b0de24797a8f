use Rattle.std.proofs.Common.{◌∙◌, sym, take, arith}
use Rattle.std.proofs.lemmas.Grind.{common_steps}
use Rattle.ion_text_in.specs.Quick.{number_after}
use Rattle.ion_text_in.proofs.QuickNumbers.{quick-int, whole-spells}
use Rattle.ion_text_in.proofs.SpelledNumbers.{int-spelled, whole-front}
use Rattle.ion_text_in.proofs.quick.quick_digits.Goals as goal

pub returns-then-stops_number : goal.returns-then-stops_number
returns-then-stops_number c =
    let digits = c.args.digits.now in
    let count = c.digit_run-count.result in
    let zeros = sym c.begins_zeros.ensures ∙ c.if-begins_zeros.false in
    let whole = whole-front c.args.negative digits count (omega arith) (omega arith) c.digit_run-count.ensures.run zeros in
    let stop = sym c.stops_number.ensures ∙ c.if-stops_number.true in
    rw c.number_by.ensures (quick-int c.args.negative digits (number_after 0 (take count digits)) count (whole-spells digits count whole) stop (omega (arith, c.number_by.ensures))
    (int-spelled c.args.negative digits count whole (omega arith) stop zeros))

pub quick_mantissa-requires-clause-whole : goal.quick_mantissa-requires-clause-whole
quick_mantissa-requires-clause-whole c =
    whole-front c.args.negative c.args.digits.now c.digit_run-count.result (omega arith) (omega arith) c.digit_run-count.ensures.run (sym c.begins_zeros.ensures ∙ c.if-begins_zeros.false)

pub slice_bounds-number_by-end : goal.slice_bounds-number_by-end
slice_bounds-number_by-end c = grind (arith, common_steps) steps 400000

pub number_by-requires-clause-few : goal.number_by-requires-clause-few
number_by-requires-clause-few c = grind (arith, common_steps)
