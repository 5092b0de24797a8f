use Rattle.std.proofs.Common.{arith, ◌+◌, ◌-◌, ◌<◌, ◌≤◌, get_or, length, refl, below_more}
use Rattle.std.proofs.lemmas.List.{length-take-le}
use Rattle.ion_value.proofs.Numbers.{var_uint-take_more, append-lt, seven-fits, seven-low, seven-high, prefix-octet, IsVar-take, no-VarUInt}
use Rattle.ion_value.proofs.var.var_uint_read.Goals as goal

-- at most eight octets came before this one
pub overflow_mul-result : goal.overflow_mul-result
overflow_mul-result c =
    let here = prefix-octet c.args.bytes.now c.min.result c.loop-i.i (omega arith) c.loop-i-test.true in
    omega (arith, seven-fits c.loop-i.value c.loop-i.i 0 c.loop-i.invariant.small (omega (arith, here.0)) (omega arith))

pub overflow_add-result : goal.overflow_add-result
overflow_add-result c =
    let here = prefix-octet c.args.bytes.now c.min.result c.loop-i.i (omega arith) c.loop-i-test.true in
    let byte = get_or c.args.bytes.now c.loop-i.i 0 in
    let octet : byte < 256 = omega (arith, c.type_inv.bytes c.loop-i.i) in
    omega (arith, here.1, seven-fits c.loop-i.value c.loop-i.i (byte - 128) c.loop-i.invariant.small (omega (arith, here.0)) (omega arith))

pub returns-then-byte-ge128-clause-read : goal.returns-then-byte-ge128-clause-read
returns-then-byte-ge128-clause-read c =
    let here = prefix-octet c.args.bytes.now c.min.result c.loop-i.i (omega arith) c.loop-i-test.true in
    let byte = get_or c.args.bytes.now c.loop-i.i 0 in
    let octet : byte < 256 = omega (arith, c.type_inv.bytes c.loop-i.i) in
    let high : 128 ≤ byte = omega (arith, here.1) in
    let within : c.loop-i.i < length c.args.bytes.now = omega (arith, here.0) in
    let whole : c.loop-i.i + 1 ≤ length c.args.bytes.now = omega arith in (
      whole,
      record {
        short = omega (arith, here.0, length-take-le (c.loop-i.i + 1) c.args.bytes.now whole);
        ends = IsVar-take c.args.bytes.now c.loop-i.i within c.loop-i.invariant.unended high;
        value = omega (arith, here.1, var_uint-take_more c.args.bytes.now c.loop-i.i within, seven-high byte high octet);
      },
    )

pub overflow_mul-value : goal.overflow_mul-value
overflow_mul-value c =
    let here = prefix-octet c.args.bytes.now c.min.result c.loop-i.i (omega arith) c.loop-i-test.true in
    omega (arith, seven-fits c.loop-i.value c.loop-i.i 0 c.loop-i.invariant.small (omega (arith, here.0)) (omega arith))

pub overflow_add-value : goal.overflow_add-value
overflow_add-value c =
    let here = prefix-octet c.args.bytes.now c.min.result c.loop-i.i (omega arith) c.loop-i-test.true in
    omega (arith, seven-fits c.loop-i.value c.loop-i.i _ c.loop-i.invariant.small (omega (arith, here.0)) c.if-byte-ge128.false)

pub loop-i-preserved : goal.loop-i-preserved
loop-i-preserved c =
    let here = prefix-octet c.args.bytes.now c.min.result c.loop-i.i (omega arith) c.loop-i-test.true in
    let byte = get_or c.args.bytes.now c.loop-i.i 0 in
    let low : byte < 128 = omega (arith, here.1) in
    let within : c.loop-i.i < length c.args.bytes.now = omega (arith, here.0) in
    record {
      so_far = omega (arith, here.1, var_uint-take_more c.args.bytes.now c.loop-i.i within, seven-low byte low);
      small = append-lt 128 c.loop-i.value c.loop-i.i _ c.loop-i.invariant.small c.if-byte-ge128.false;
      unended = below_more _ _ c.loop-i.invariant.unended low;
    }

-- no octet before the end has the high bit
pub returns-clause-refused : goal.returns-clause-refused
returns-clause-refused c =
    let ended : c.min.result ≤ c.loop-i.i = omega (arith, length-take-le c.min.result c.args.bytes.now (omega arith)) in
    (refl, no-VarUInt c.args.bytes.now (λ k nine within. c.loop-i.invariant.unended k (omega arith)))
