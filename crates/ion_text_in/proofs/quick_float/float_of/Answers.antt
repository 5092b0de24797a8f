use mir.Syntax.{w32, w64}
use mir.Val.{SFits}
use Rattle.std.proofs.Common.{rules, ◌∙◌, Some, refl, sym, ap}
use Rattle.std.proofs.lemmas.Int.{to_z-of_z}
use lib.Ieee.{binary64}
use Rattle.fast_float.specs.Rounding.{nearest_to_decimal}
use Rattle.ion_value.specs.Float.{value_of}
use Rattle.ion_value.specs.FloatText.{finite}
use Rattle.ion_float.proofs.TextReading.{parsed-finite}
use Rattle.ion_text_in.proofs.QuickFloats.{quick-float}
use Rattle.ion_text_in.proofs.quick_float.float_of.Goals as goal

pub returns : goal.returns
returns c =
    let m = c.args.mantissa in
    let narrow : SFits w32 c.exponent_of-exponent.result = search rules in
    let wide : SFits w64 c.from.result = search rules in
    let exponent = to_z-of_z w64 c.from.result wide ∙ c.from.ensures ∙ to_z-of_z w32 c.exponent_of-exponent.result narrow ∙ c.exponent_of-exponent.ensures in
    let v = c.from_parts-value.result in
    let read = parsed-finite (Some v) v (value_of c.from_number.result) refl c.from_number.ensures (sym c.is_finite.ensures.value ∙ c.if-not-is_finite.false) v refl in
    quick-float c.args.negative c.args.digits.now m.number m.places m.end c.in_ok-power.power c.from_number.result c.requires.mantissa c.requires.mark c.in_ok-power.ensures
    (read ∙ ap finite (c.from_parts-value.ensures ∙ ap (nearest_to_decimal binary64 c.args.negative m.number) exponent))
