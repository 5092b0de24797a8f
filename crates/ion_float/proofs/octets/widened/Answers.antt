use Rattle.std.proofs.Common.{◌∙◌}
use Rattle.std.proofs.lemmas.Float.{not_nan_f32_bits}
use Rattle.ion_float.proofs.Narrow.{narrow_above}
use Rattle.ion_float.proofs.octets.widened.Goals as goal

pub returns-then-bits-gt-INFINITY : goal.returns-then-bits-gt-INFINITY
returns-then-bits-gt-INFINITY c = c.nan.ensures ∙ narrow_above c.args.bits c.if-bits-gt-INFINITY.true

pub float_from_bits-bits : goal.float_from_bits-bits
float_from_bits-bits c = not_nan_f32_bits c.args.bits c.if-bits-gt-INFINITY.false
