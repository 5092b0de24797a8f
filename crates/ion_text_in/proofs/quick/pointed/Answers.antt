use Rattle.std.proofs.Common.{◌+◌, ◌∙◌, ap, ap₂, take, arith}
use Rattle.std.proofs.lemmas.Grind.{common_steps}
use Rattle.std.proofs.lemmas.List.{take_rest, length-take-le}
use Rattle.ion_text_in.specs.Quick.{number_after}
use Rattle.ion_text_in.proofs.DigitNumbers.{narrow-after}
use Rattle.ion_text_in.proofs.quick.pointed.Goals as goal

pub number_after-requires-clause-room : goal.number_after-requires-clause-room
number_after-requires-clause-room c =
    let digits = c.args.digits.now in
    let places = c.digit_run-places.result in
    let front = length-take-le c.args.count digits (omega (arith, c.requires.whole.within)) in
    let after = length-take-le places _ c.digit_run-places.ensures.within in
    let room = narrow-after (take c.args.count digits) places c.requires.whole.digits (omega (arith, front, c.if-count-places-gt-NARROW.false)) in
    rw (after, c.number_after-whole.ensures) room

pub returns : goal.returns
returns c =
    let rest = take_rest c.args.digits.now (c.args.count + 1) in
    record {
      some = omega arith;
      few = omega (arith, c.if-count-places-gt-NARROW.false);
      end = omega arith;
      within = omega arith;
      digits = rw rest at c.digit_run-places.ensures.run;
      number = c.number_after.ensures ∙ ap₂ number_after c.number_after-whole.ensures (ap (take c.digit_run-places.result) rest);
    }

pub slice_bounds-number_after-end : goal.slice_bounds-number_after-end
slice_bounds-number_after-end c = grind (arith, common_steps) steps 400000

pub slice_bounds-number_after-end-2 : goal.slice_bounds-number_after-end-2
slice_bounds-number_after-end-2 c = grind (arith, common_steps) steps 400000
