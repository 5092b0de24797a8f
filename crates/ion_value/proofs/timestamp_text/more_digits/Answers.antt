use Rattle.std.proofs.Common.{◌-◌, ◌+◌, ◌*◌, length, take, drop, refl, ◌∙◌, ap}
use Rattle.ion_value.proofs.TimestampOctets.{from_place}
use Rattle.ion_value.proofs.LeadingDigits.{prefix-many}
use Rattle.ion_value.proofs.timestamp_text.more_digits.Goals as goal

pub returns : goal.returns
returns c =
    λ prefix long all is_high.
    let bytes = c.args.bytes.now in
    let count = c.few_digits-low.result.1 in
    let others = c.digit_count-others.result in
    let more = rw (from_place bytes count) at c.digit_count-others.ensures in
    let rest = from_place (take (length bytes - count) (drop count bytes)) others ∙ ap (λ xs. drop others xs) (from_place bytes count) in
    let value = ap (λ n. c.args.high * n + c.few_digits-low.result.0) c.pow.ensures in
    prefix-many prefix bytes c.args.high c.few_digits-low.result.0 count others _ long all is_high c.few_digits-low.ensures.digits c.few_digits-low.ensures.value more value refl rest
