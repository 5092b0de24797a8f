use Rattle.std.proofs.Common.{take, get_or, arith}
use Rattle.ion_value.proofs.LeadingDigits.{digit-byte, digits-more, value-more, fits-more, prefix-within, prefix-byte}
use Rattle.std.proofs.lemmas.Grind.{common_steps}
use Rattle.ion_value.proofs.timestamp_text.few_digits.Goals as goal

pub overflow_mul-number : goal.overflow_mul-number
overflow_mul-number c =
    let few = prefix-within c.args.bytes.now c.min.result c.loop-i.i c.min.ensures c.loop-i-test.true in
    let fits = fits-more c.loop-i.i c.loop-i.number _ few c.loop-i.invariant.small c.if-digit-gt9.false in
    omega (arith, fits.0)

pub overflow_add-number : goal.overflow_add-number
overflow_add-number c =
    let few = prefix-within c.args.bytes.now c.min.result c.loop-i.i c.min.ensures c.loop-i-test.true in
    (fits-more c.loop-i.i c.loop-i.number _ few c.loop-i.invariant.small c.if-digit-gt9.false).0

pub loop-i-preserved : goal.loop-i-preserved
loop-i-preserved c =
    let prefix = take c.min.result c.args.bytes.now in
    let few = prefix-within c.args.bytes.now c.min.result c.loop-i.i c.min.ensures c.loop-i-test.true in
    let byte = prefix-byte c.args.bytes.now c.min.result c.loop-i.i c.loop-i-test.true (c.type_inv.bytes c.loop-i.i) in
    let digit = digit-byte (get_or prefix c.loop-i.i 0) byte c.if-digit-gt9.false in
    record {
      digits = digits-more prefix c.loop-i.i c.loop-i-test.true c.loop-i.invariant.digits digit.0;
      value = value-more prefix c.loop-i.i c.loop-i.number _ c.loop-i-test.true c.loop-i.invariant.value digit.1;
      small = (fits-more c.loop-i.i c.loop-i.number _ few c.loop-i.invariant.small c.if-digit-gt9.false).1;
    }

pub returns-then-digit-gt9-clause-digits : goal.returns-then-digit-gt9-clause-digits
returns-then-digit-gt9-clause-digits c = grind (arith, common_steps)

pub returns-clause-digits : goal.returns-clause-digits
returns-clause-digits c = grind (arith, common_steps)

pub returns-then-digit-gt9-clause-value : goal.returns-then-digit-gt9-clause-value
returns-then-digit-gt9-clause-value c = grind (arith, common_steps)
