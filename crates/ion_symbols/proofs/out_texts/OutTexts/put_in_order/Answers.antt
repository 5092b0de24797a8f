use Rattle.std.proofs.Common.{length, ap, arith}
use Rattle.std.proofs.lemmas.Grind.{common_steps}
use Rattle.ion_symbols.proofs.PuttingInOrder.{putting_distinct, putting_none, putting_more, putting_all}
use Rattle.ion_symbols.proofs.out_texts.OutTexts.put_in_order.Goals as goal

pub loop-count-init : goal.loop-count-init
loop-count-init g c = putting_none c.args.self.now

pub place_among-place-requires-clause-texts : goal.place_among-place-requires-clause-texts
place_among-place-requires-clause-texts g c = putting_distinct c.args.self.now c.loop-count.self c.loop-count.count c.requires.kept c.loop-count.invariant

pub loop-count-preserved : goal.loop-count-preserved
loop-count-preserved g c =
    putting_more c.args.self.now c.loop-count.self c.shift_in.new.self c.loop-count.count c.place_among-place.result c.loop-count.invariant
    (omega (arith, ap length c.as_slice.ensures, c.loop-count-test.true)) c.place_among-place.ensures c.shift_in.ensures.items c.shift_in.ensures.len c.shift_in.ensures.cost

pub returns-clause-kept : goal.returns-clause-kept
returns-clause-kept g c =
    putting_all c.args.self.now c.loop-count.self c.loop-count.count c.requires.kept c.loop-count.invariant (omega (arith, ap length c.as_slice.ensures, c.loop-count-test.false))

pub shift_in-requires-clause-order : goal.shift_in-requires-clause-order
shift_in-requires-clause-order g c = grind (arith, common_steps)

pub shift_in-requires-clause-within : goal.shift_in-requires-clause-within
shift_in-requires-clause-within g c = grind (arith, common_steps)

pub loop-count-smaller : goal.loop-count-smaller
loop-count-smaller g c = grind (arith, common_steps)

pub place_among-place-requires-clause-within : goal.place_among-place-requires-clause-within
place_among-place-requires-clause-within g c = grind (arith, common_steps)
