use Rattle.std.proofs.Common.{◌^◌, ap, ◌∙◌}
use Rattle.ion_value.proofs.FixedDigits.{pow-pos}
use Rattle.ion_value.proofs.PointedText.{rest-small, pointed-written}
use Rattle.ion_value.proofs.decimal_text.push_short.Goals as goal

pub nonzero_div-number : goal.nonzero_div-number
nonzero_div-number c = rw (c.pow-power.ensures, c.from.ensures) (pow-pos c.args.places)

pub nonzero_rem-number : goal.nonzero_rem-number
nonzero_rem-number c = rw (c.pow-power.ensures, c.from.ensures) (pow-pos c.args.places)

pub push_digits-requires-clause-small : goal.push_digits-requires-clause-small
push_digits-requires-clause-small c = rest-small c.args.number c.args.places c.pow-power.result (c.pow-power.ensures ∙ ap (λ k. 10 ^ k) c.from.ensures)

pub returns : goal.returns
returns c =
    pointed-written c.args.number c.args.places c.pow-power.result c.args.text.now.bytes c.push_str.new.self.bytes c.push_byte.new.text.bytes c.push_digits.new.text.bytes
    c.format.result.now (c.pow-power.ensures ∙ ap (λ k. 10 ^ k) c.from.ensures) c.format.ensures.text c.push_str.ensures.bytes c.push_byte.ensures.text c.push_digits.ensures.text
