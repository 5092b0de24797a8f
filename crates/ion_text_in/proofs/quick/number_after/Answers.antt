use Rattle.std.proofs.lemmas.Grind.{common_steps}
use Rattle.std.proofs.Common.{◌+◌, ◌*◌, ◌^◌, ◌∙◌, arith}
use Rattle.ion_text_in.proofs.DigitNumbers.{four-digits, four-number, four-room, room-after}
use Rattle.ion_text_in.proofs.quick.number_after.Goals as goal

pub overflow_mul-number : goal.overflow_mul-number
overflow_mul-number c =
    omega (arith, four-room c.loop-rest.number (2 ^ 64) c.loop-rest.rest.now c.in-len4-up.len_at_least c.loop-rest.invariant.room)

pub overflow_add-number-in-len4-up : goal.overflow_add-number-in-len4-up
overflow_add-number-in-len4-up c =
    let room = four-room c.loop-rest.number (2 ^ 64) c.loop-rest.rest.now c.in-len4-up.len_at_least c.loop-rest.invariant.room in
    omega (arith, room, c.pair-front.ensures.small, c.pair-back.ensures.small)

pub loop-rest-preserved : goal.loop-rest-preserved
loop-rest-preserved c =
    let l = c.loop-rest in
    let front = c.pair-front.result in
    let back = c.pair-back.result in
    let long = c.in-len4-up.len_at_least in
    record {
      so_far = four-number l.number front back _ l.rest.now long (omega arith) c.pair-front.ensures.is c.pair-back.ensures.is ∙ l.invariant.so_far;
      digits = four-digits _ l.rest.now (omega arith) l.invariant.digits;
      room = room-after l.number (front * 100 + back) _ (2 ^ 64) l.rest.now long (omega arith) (omega (arith, c.pair-front.ensures.small, c.pair-back.ensures.small)) l.invariant.room;
    }

pub loop-rest-smaller : goal.loop-rest-smaller
loop-rest-smaller c = grind (arith, common_steps)
