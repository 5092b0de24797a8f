use Rattle.std.proofs.Common.{◌^◌, ◌<◌, ◌∙◌, sym, arith}
use Rattle.ion_value.proofs.TextDigits.{in_128-small, room-digit, room-underscore, read-digit, read-underscore, read-nothing, read-other, read-bad}
use Rattle.ion_value.proofs.digits.short.Goals.{in_default, in-len1-up+in-None-2, in-len1-up+in-None-2-2}
use Rattle.std.proofs.lemmas.Grind.{common_steps}
use Rattle.ion_value.proofs.digits.short.Goals as goal

pub loop-rest-preserved-else-number : goal.loop-rest-preserved-else-number
loop-rest-preserved-else-number g c =
    let l = c.loop-rest in
    let told = c.in-Some.ensures in
    record {
      so_far = rw told.1 (read-digit g.row.BASE l.number l.count _ l.after l.rest.now (omega arith) (omega arith) told.0 ∙ l.invariant.so_far);
      room = room-digit l.rest.now _ l.count _ (omega arith) (omega arith) l.invariant.room;
    }

pub loop-rest-preserved : goal.loop-rest-preserved
loop-rest-preserved g c =
    let l = c.loop-rest in
    record {
      so_far = read-underscore g.row.BASE l.number l.count _ l.after l.rest.now (omega arith) (omega arith) c.in-None.ensures c.if-byte-eq95.true c.if-after.true ∙ l.invariant.so_far;
      room = room-underscore l.rest.now _ l.count _ (omega arith) (omega arith) l.invariant.room;
    }

pub returns : goal.returns
returns g c =
    let l = c.loop-rest in
    let small : l.number < 2 ^ 128 = omega arith in
    let answer = c.ended.ensures l.number (in_128-small l.number small) in
    rw (sym l.invariant.so_far) (
    elim c.if-rest-lt1.branch [
      | in_default w ↦ rw (read-nothing g.row.BASE l.number l.count l.after l.rest.now w.in_default.len_below) answer
      | in-len1-up+in-None-2 w ↦ rw (read-bad g.row.BASE l.number l.count l.after l.rest.now (omega arith) w.in-None.ensures w.if-after.false) answer
      | in-len1-up+in-None-2-2 w ↦ rw (read-other g.row.BASE l.number l.count l.after l.rest.now (omega arith) w.in-None.ensures w.if-byte-eq95.false) answer
    ]
    )

pub returns-then-number : goal.returns-then-number
returns-then-number g c = grind (arith, common_steps)

pub overflow_add-number : goal.overflow_add-number
overflow_add-number g c = grind (arith, common_steps)

pub overflow_mul-number : goal.overflow_mul-number
overflow_mul-number g c = grind (arith, common_steps)
