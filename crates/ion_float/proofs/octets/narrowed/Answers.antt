use Rattle.std.proofs.Common.{◌∙◌, sym, ap}
use Rattle.std.proofs.lemmas.Float.{T_from_true}
use Rattle.std.specs.Float.{round_to_format}
use lib.Ieee.{binary32, binary64}
use Rattle.ion_value.specs.Float.{value_of}
use Rattle.ion_float.proofs.Narrow.{nan_fits, number_bits, narrowed_number, widens, narrowed_some, narrowed_none, narrowed_by_last}
use Rattle.ion_float.proofs.octets.narrowed.Goals as goal

pub returns-then-bits-ne0 : goal.returns-then-bits-ne0
returns-then-bits-ne0 c = narrowed_by_last (value_of c.args.float) c.bits.result c.bits.ensures.bits c.if-bits-ne0.true

pub returns-then-is_nan : goal.returns-then-is_nan
returns-then-is_nan c = nan_fits (value_of c.args.float) (sym c.is_nan.ensures ∙ c.if-is_nan.true)

pub float_from_bits-wide : goal.float_from_bits-wide
float_from_bits-wide c =
    number_bits binary64 c.bits-wide.result (value_of c.args.float) c.bits-wide.ensures.value (sym c.is_nan.ensures ∙ c.if-is_nan.false)

pub float_to_float-narrow : goal.float_to_float-narrow
float_to_float-narrow c =
    widens c.nearest_f64_to_f32-narrow.result c.type_inv.narrow
    (narrowed_number (value_of c.args.float) c.nearest_f64_to_f32-narrow.result (sym c.is_nan.ensures ∙ c.if-is_nan.false)
    (c.nearest_f64_to_f32-narrow.ensures ∙ ap (round_to_format binary32) c.bits-wide.ensures.value))

pub float_to_bits-narrow : goal.float_to_bits-narrow
float_to_bits-narrow c =
    narrowed_number (value_of c.args.float) c.nearest_f64_to_f32-narrow.result (sym c.is_nan.ensures ∙ c.if-is_nan.false)
    (c.nearest_f64_to_f32-narrow.ensures ∙ ap (round_to_format binary32) c.bits-wide.ensures.value)

pub float_to_bits-result : goal.float_to_bits-result
float_to_bits-result c =
    narrowed_number (value_of c.args.float) c.nearest_f64_to_f32-narrow.result (sym c.is_nan.ensures ∙ c.if-is_nan.false)
    (c.nearest_f64_to_f32-narrow.ensures ∙ ap (round_to_format binary32) c.bits-wide.ensures.value)

pub returns-then-narrow-bits : goal.returns-then-narrow-bits
returns-then-narrow-bits c =
    narrowed_some (value_of c.args.float) c.nearest_f64_to_f32-narrow.result c.bits-2.result c.bits-2.ensures.value
    (T_from_true _ c.nearest_f64_to_f32-narrow.type_inv) c.if-narrow-bits.true

pub returns-else-narrow-bits : goal.returns-else-narrow-bits
returns-else-narrow-bits c =
    narrowed_none (value_of c.args.float) c.nearest_f64_to_f32-narrow.result c.bits-2.result c.bits-2.ensures.bits
    (c.nearest_f64_to_f32-narrow.ensures ∙ ap (round_to_format binary32) c.bits-wide.ensures.value) c.if-narrow-bits.false
