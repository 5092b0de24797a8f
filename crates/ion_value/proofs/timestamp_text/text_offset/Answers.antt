use Rattle.std.proofs.Common.{◌≡◌, ◌⊎◌, inl, inr, get_or, sym, ◌∙◌, arith}
use Rattle.std.proofs.lemmas.Bool.{eqb-true}
use Rattle.ion_value.proofs.TimestampText.{two_digits-none, offset-some, offset-none}
use Rattle.ion_value.proofs.timestamp_text.text_offset.Goals.{then-sign-eq43, else-sign-eq43}
use Rattle.ion_value.proofs.timestamp_text.text_offset.Goals as goal

pub returns-in-Some-Some : goal.returns-in-Some-Some
returns-in-Some-Some c =
    let bytes = c.args.bytes.now in
    let sign : (get_or bytes 0 0 ≡ 43) ⊎ (get_or bytes 0 0 ≡ 45) = elim c.if-sign-eq43.branch [
      | then-sign-eq43 w ↦ inl w.if-sign-eq43.true
      | else-sign-eq43 w ↦ inr (eqb-true _ _ (sym w.value-is ∙ c.if-sign-eq45.true))
    ] in
    offset-some bytes c.in-Some-Some.hours c.in-Some-Some.minutes c.in-58.len_at_least c.in-58.len_below sign (omega arith)
    (sym c.in-Some-Some.is-0 ∙ c.two_digits.ensures.value) (sym c.in-Some-Some.is-1 ∙ c.two_digits-in-58.ensures.value)

pub returns-in_default-2 : goal.returns-in_default-2
returns-in_default-2 c =
    let bytes = c.args.bytes.now in
    offset-none bytes c.in-58.len_at_least c.in-58.len_below
    (inr (two_digits-none (get_or bytes 4 0) (get_or bytes 5 0) (sym c.in_default-2.is-1 ∙ c.two_digits-in-58.ensures.value)))
