use Rattle.std.proofs.Common.{◌≡◌, ℕ, List, ◌+◌, ◌∙◌, sym, ap, subst, drop, get_or, arith}
use Rattle.std.proofs.lemmas.List.{take_rest}
use Rattle.ion_text_in.specs.Quick.{signed_text, stops, IsPower}
use Rattle.ion_text_in.proofs.Mantissas.{power-after, sign_length}
use Rattle.ion_text_in.proofs.quick.power_after.Goals as goal
use Rattle.ion_text_in.proofs.quick.power_after.Goals.{then-below, else-below}

pub returns : goal.returns
returns c =
    let digits = c.args.digits.now in
    let at = c.args.mark in
    let below = c.sign-below.result.0 in
    let ys : List ℕ = c.sign-below.result.1.now in
    let j = c.few_digits-n.result in
    let m = c.few_after-magnitude.result in
    let end : c.if-below.end ≡ at + 1 + (sign_length below + j) = elim c.if-below.branch [
      | then-below w ↦ let length : sign_length below ≡ 1 = ap sign_length w.if-below.true in let is = w.end-is in omega (arith, is, length)
      | else-below w ↦ let length : sign_length below ≡ 0 = ap sign_length w.if-below.false in let is = w.end-is in omega (arith, is, length)
    ] in
    let after : signed_text below ys ≡ drop (at + 1) digits = c.sign-below.ensures ∙ take_rest digits (at + 1) in
    let stop = ap (λ (i : ℕ). stops (get_or digits i 0)) (sym end) ∙ (sym c.stops_number.ensures ∙ c.if-not-stops_number.false) in
    let power = power-after below digits ys at m j (omega arith) after c.few_digits-n.ensures.within (omega arith) (omega arith) c.few_digits-n.ensures.run c.few_after-magnitude.ensures (omega (arith, end)) stop in
    subst (λ (k : ℕ). IsPower digits at (record { below = below; magnitude = m; end = k })) (sym end) power
