use Rattle.std.proofs.Common.{◌^◌, ap, ◌∙◌, arith}
use Rattle.ion_value.proofs.FixedDigits.{pow-pos}
use Rattle.ion_value.proofs.PointedText.{rest-small, pointed-written, whole-short, power-fits}
use Rattle.ion_value.proofs.decimal_text.push_long.Goals as goal

pub pow-power-requires : goal.pow-power-requires
pow-power-requires c = rw c.from.ensures (power-fits c.args.places c.requires.few)

pub nonzero_div-number : goal.nonzero_div-number
nonzero_div-number c = rw (c.pow-power.ensures, c.from.ensures) (pow-pos c.args.places)

pub nonzero_rem-number : goal.nonzero_rem-number
nonzero_rem-number c = rw (c.pow-power.ensures, c.from.ensures) (pow-pos c.args.places)

pub push_fraction-requires-clause-small : goal.push_fraction-requires-clause-small
push_fraction-requires-clause-small c = rest-small c.args.number c.args.places c.pow-power.result (c.pow-power.ensures ∙ ap (λ k. 10 ^ k) c.from.ensures)

pub push_fraction-requires-clause-room : goal.push_fraction-requires-clause-room
push_fraction-requires-clause-room c =
    let short = whole-short c.args.number c.args.places c.pow-power.result c.format.result.now (c.pow-power.ensures ∙ ap (λ k. 10 ^ k) c.from.ensures)
    c.format.ensures.text c.ranges.number.fits c.requires.few in
    omega (arith, short, c.push_str.ensures.len, c.push_byte.ensures.len, c.requires.room)

pub returns : goal.returns
returns c =
    pointed-written c.args.number c.args.places c.pow-power.result c.args.text.now.bytes c.push_str.new.self.bytes c.push_byte.new.text.bytes c.push_fraction.new.text.bytes
    c.format.result.now (c.pow-power.ensures ∙ ap (λ k. 10 ^ k) c.from.ensures) c.format.ensures.text c.push_str.ensures.bytes c.push_byte.ensures.text c.push_fraction.ensures.text
