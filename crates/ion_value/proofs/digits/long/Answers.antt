use Rattle.std.proofs.Common.{◌+◌, ◌*◌, ◌∙◌, sym, arith}
use Rattle.ion_value.proofs.TextDigits.{room-digit, room-underscore, read-digit, read-underscore, read-nothing, read-other, read-bad}
use Rattle.ion_value.proofs.digits.long.Goals.{in_default, in-len1-up+in-None-2, in-len1-up+in-None-2-2}
use Rattle.ion_value.proofs.digits.long.Goals as goal

pub loop-rest-preserved-in-Some : goal.loop-rest-preserved-in-Some
loop-rest-preserved-in-Some g c =
    let rest = c.loop-rest.rest.now in
    record {
      so_far = λ n e.
          let before = c.loop-rest.invariant.so_far n e in
          let told = c.in-Some.ensures in (
            before.0 * g.row.BASE + c.in-Some.value,
            c.appended-number.ensures before.0 before.1,
            rw told.1 (read-digit g.row.BASE before.0 c.loop-rest.count _ c.loop-rest.after rest (omega arith) (omega arith) told.0 ∙ before.2),
          );
      room = room-digit rest _ c.loop-rest.count _ (omega arith) (omega arith) c.loop-rest.invariant.room;
    }

pub loop-rest-preserved : goal.loop-rest-preserved
loop-rest-preserved g c =
    let rest = c.loop-rest.rest.now in
    record {
      so_far = λ n e.
          let before = c.loop-rest.invariant.so_far n e in (
            before.0,
            before.1,
            read-underscore g.row.BASE before.0 c.loop-rest.count _ c.loop-rest.after rest (omega arith) (omega arith) c.in-None.ensures c.if-byte-eq95.true c.if-after.true ∙ before.2,
          );
      room = room-underscore rest _ c.loop-rest.count _ (omega arith) (omega arith) c.loop-rest.invariant.room;
    }

pub returns : goal.returns
returns g c =
    λ n e.
    let before = c.loop-rest.invariant.so_far n e in
    let answer = c.ended.ensures before.0 before.1 in
    let rest = c.loop-rest.rest.now in
    rw (sym before.2) (
    elim c.if-rest-lt1.branch [
      | in_default w ↦ rw (read-nothing g.row.BASE before.0 c.loop-rest.count c.loop-rest.after rest w.in_default.len_below) answer
      | in-len1-up+in-None-2 w ↦ rw (read-bad g.row.BASE before.0 c.loop-rest.count c.loop-rest.after rest (omega arith) w.in-None.ensures w.if-after.false) answer
      | in-len1-up+in-None-2-2 w ↦ rw (read-other g.row.BASE before.0 c.loop-rest.count c.loop-rest.after rest (omega arith) w.in-None.ensures w.if-byte-eq95.false) answer
    ]
    )
