use Rattle.std.proofs.Common.{◌≢◌, ◌⊎◌, ◌<◌, inl, inr, length, get_or, drop, ◌∙◌, arith}
use Rattle.std.proofs.lemmas.Bool.{ltb-true}
use Rattle.ion_value.proofs.TimestampOctets.{from_place}
use Rattle.ion_value.proofs.TextParts.{first-after, second-fraction, second-offset}
use Rattle.ion_value.proofs.timestamp_text.read_fraction.Goals.{in_default-via-then-bytes-lt1, in_default-via-else-bytes-lt1+in_default-1}
use Rattle.ion_value.proofs.timestamp_text.read_fraction.Goals as goal

pub returns-in-46 : goal.returns-in-46
returns-in-46 c =
    let bytes = c.args.bytes.now in
    let prefix = rw (from_place bytes 1) at c.leading_digits.ensures in
    c.read_after_digits.ensures ∙ second-fraction c.args.timestamp.now bytes (drop 1 bytes) _ (first-after bytes 46 c.in-46.len_at_least (omega arith)) prefix

pub returns-in_default : goal.returns-in_default
returns-in_default c =
    let bytes = c.args.bytes.now in
    let other : (length bytes < 1) ⊎ (get_or bytes 0 0 ≢ 46) = elim c.in_default.branch [
      | in_default-via-then-bytes-lt1 w ↦ inl (omega (arith, ltb-true))
      | in_default-via-else-bytes-lt1+in_default-1 w ↦ inr (λ e. absurd (omega arith))
    ] in
    c.read_offset.ensures ∙ second-offset c.args.timestamp.now bytes other
