use Rattle.std.proofs.Common.{◌≡◌, true, T, refl, sym, subst}
use mathlib.Core.Bool.{not}
use lib.Ieee.{Float, nan, inf, fin, binary64}
use lib.Ieee.Bits.{nan_bits_is}
use lib.Ieee.Positive.{positive}
use Rattle.core.specs.Float.{float_is_finite}
use Rattle.ion_float.proofs.Between.{positive-number}
use Rattle.ion_float.proofs.Reading.{is-positive}
use Rattle.ion_float.proofs.guess.guess.Goals as goal

finite : (x : Float) → T (positive x) → float_is_finite x ≡ true
unfolding float_is_finite
finite nan p = absurd p
finite (inf s) p = absurd p
finite (fin s m e) p = refl

pub float_from_bits-bits : goal.float_from_bits-bits
float_from_bits-bits c = subst (λ b. T (not b)) (sym (nan_bits_is binary64 c.args.bits)) (positive-number _ (is-positive c.args.bits c.requires))

pub format-length-requires : goal.format-length-requires
format-length-requires c = finite _ (is-positive c.args.bits c.requires)
