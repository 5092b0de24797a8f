use Rattle.std.proofs.Common.{◌≢◌, ◌⊎◌, ◌<◌, inl, inr, length, get_or, sym, ◌∙◌, arith}
use Rattle.std.proofs.lemmas.Bool.{ltb-true}
use Rattle.ion_value.proofs.TimestampOctets.{from_place}
use Rattle.ion_value.proofs.TextStages.{minute-offset, minute-second, minute-bad}
use Rattle.ion_value.proofs.timestamp_text.read_second.Goals.{in_default-via-then-bytes-lt3, in_default-via-else-bytes-lt3+in_default-1}
use Rattle.ion_value.proofs.timestamp_text.read_second.Goals as goal

pub returns-in-Some : goal.returns-in-Some
returns-in-Some c =
    let bytes = c.args.bytes.now in
    rw (from_place bytes 3) at c.read_fraction.ensures
    ∙ minute-second c.args.timestamp.now bytes c.in-Some.second c.in-58.len_at_least (omega arith) (sym c.in-Some.is ∙ c.two_digits.ensures.value)

pub returns-in-None : goal.returns-in-None
returns-in-None c = minute-bad c.args.timestamp.now c.args.bytes.now c.in-58.len_at_least (omega arith) (sym c.in-None.is ∙ c.two_digits.ensures.value)

pub returns-in_default : goal.returns-in_default
returns-in_default c =
    let bytes = c.args.bytes.now in
    let other : (length bytes < 3) ⊎ (get_or bytes 0 0 ≢ 58) = elim c.in_default.branch [
      | in_default-via-then-bytes-lt3 w ↦ inl (omega (arith, ltb-true))
      | in_default-via-else-bytes-lt3+in_default-1 w ↦ inr (λ e. absurd (omega arith))
    ] in
    c.read_offset.ensures ∙ minute-offset c.args.timestamp.now bytes other
