use Rattle.std.proofs.Common.{◌≡◌, ◌∙◌, true, false, arith}
use Rattle.std.proofs.lemmas.Bool.{le-ltb, lt-ltb}
use Rattle.ion_text_in.proofs.Hexes.{hex-cut, hex-next, hex-all, sixteen-times, in-32}
use Rattle.ion_text_in.proofs.piece.hex_digits.Goals as goal

pub returns-then-bytes-i : goal.returns-then-bytes-i
returns-then-bytes-i c =
    c.loop-i.invariant.same ∙ hex-cut c.args.count c.loop-i.i c.loop-i.number c.args.bytes.now c.loop-i-test.true c.if-bytes-i.true

pub returns-then-value-ge16 : goal.returns-then-value-ge16
returns-then-value-ge16 c =
    c.loop-i.invariant.same
    ∙ hex-next c.args.count c.loop-i.i c.loop-i.number c.args.bytes.now false c.loop-i-test.true c.if-bytes-i.false
    (c.hex_value-value.ensures.digit ∙ le-ltb _ _ c.if-value-ge16.true)

pub overflow_add-number : goal.overflow_add-number
overflow_add-number c =
    let small = in-32 c.loop-i.i c.loop-i.number c.hex_value-value.result (omega arith) c.loop-i.invariant.small c.if-value-ge16.false in
    omega (arith, small)

pub overflow_mul-number : goal.overflow_mul-number
overflow_mul-number c =
    let small = in-32 c.loop-i.i c.loop-i.number c.hex_value-value.result (omega arith) c.loop-i.invariant.small c.if-value-ge16.false in
    omega (arith, small)

pub loop-i-preserved : goal.loop-i-preserved
loop-i-preserved c =
    let digit = c.hex_value-value.ensures.value c.if-value-ge16.false in
    record {
      same = rw digit (c.loop-i.invariant.same
          ∙ hex-next c.args.count c.loop-i.i c.loop-i.number c.args.bytes.now true c.loop-i-test.true c.if-bytes-i.false
          (c.hex_value-value.ensures.digit ∙ lt-ltb _ _ c.if-value-ge16.false));
      small = sixteen-times c.loop-i.i c.loop-i.number c.hex_value-value.result c.loop-i.invariant.small c.if-value-ge16.false;
      there = omega arith;
    }

pub returns : goal.returns
returns c =
    let all : c.loop-i.i ≡ c.args.count = omega arith in
    let small = c.loop-i.invariant.small in (
      c.loop-i.invariant.same ∙ hex-all c.args.count c.loop-i.i c.loop-i.number c.args.bytes.now all,
      rw all at small,
      omega arith,
    )
