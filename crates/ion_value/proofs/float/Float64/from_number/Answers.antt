use Rattle.std.proofs.Common.{◌∙◌}
use lib.Ieee.{binary64}
use lib.Ieee.Bits.{of_bits-to_bits}
use Rattle.std.proofs.lemmas.Float.{T_from_true}
use Rattle.ion_value.proofs.float.Float64.from_number.Goals as goal

pub returns : goal.returns
returns c = c.from_bits.ensures ∙ of_bits-to_bits binary64 c.args.number (T_from_true _ c.well_formed.0.1)
