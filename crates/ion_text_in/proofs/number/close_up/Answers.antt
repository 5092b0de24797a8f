use Rattle.std.proofs.Common.{◌∙◌}
use Rattle.ion_text_in.proofs.ClosingUp.{kept-turn, left-turn}
use Rattle.ion_text_in.proofs.number.close_up.Goals.{then-byte-ne95, else-byte-ne95}
use Rattle.ion_text_in.proofs.number.close_up.Goals as goal

pub loop-place-preserved : goal.loop-place-preserved
loop-place-preserved g c =
    let there = rw c.as_slice-place-end.ensures at c.loop-place-test.true in
    elim c.if-byte-ne95.branch [
      | then-byte-ne95 w ↦
          kept-turn c.loop-place.text c.args.text.now c.if-byte-ne95.text c.loop-place.count c.loop-place.place c.if-byte-ne95.count c.loop-place.invariant
          there (rw c.as_slice.ensures at w.if-byte-ne95.true) (w.text-is ∙ (rw c.as_slice.ensures at w.set.ensures)) w.count-is
      | else-byte-ne95 w ↦
          left-turn c.loop-place.text c.args.text.now c.if-byte-ne95.text c.loop-place.count c.loop-place.place c.if-byte-ne95.count c.loop-place.invariant
          there (rw c.as_slice.ensures at w.if-byte-ne95.false) w.text-is w.count-is
    ]
