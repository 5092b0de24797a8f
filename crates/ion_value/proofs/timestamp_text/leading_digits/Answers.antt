use Rattle.std.proofs.Common.{arith}
use Rattle.ion_value.proofs.TimestampOctets.{from_place}
use Rattle.ion_value.proofs.LeadingDigits.{prefix-few}
use Rattle.std.proofs.lemmas.Grind.{common_steps}
use Rattle.ion_value.proofs.timestamp_text.leading_digits.Goals as goal

pub returns-then-count-lt-DIGITS_IN_64_BITS : goal.returns-then-count-lt-DIGITS_IN_64_BITS
returns-then-count-lt-DIGITS_IN_64_BITS c =
    prefix-few c.args.bytes.now _ c.few_digits-number.ensures.digits c.if-count-lt-DIGITS_IN_64_BITS.true c.few_digits-number.ensures.value
    (from_place c.args.bytes.now c.few_digits-number.result.1)

pub returns : goal.returns
returns c = grind (arith, common_steps)
