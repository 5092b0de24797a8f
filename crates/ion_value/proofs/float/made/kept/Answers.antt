use Rattle.std.proofs.Common.{ap, ◌∙◌, sym}
use lib.Ieee.{binary64, to_bits}
use Rattle.ion_value.proofs.FloatBits.{kept-nan, kept-number, nan_above}
use Rattle.ion_value.proofs.float.made.kept.Goals as goal

pub returns-then-bits-gt-INFINITY-clause-value : goal.returns-then-bits-gt-INFINITY-clause-value
returns-then-bits-gt-INFINITY-clause-value c = nan_above c.args.bits c.if-bits-gt-INFINITY.true

pub returns-then-bits-gt-INFINITY-clause-bits : goal.returns-then-bits-gt-INFINITY-clause-bits
returns-then-bits-gt-INFINITY-clause-bits c =
    ap (to_bits binary64) (sym (nan_above c.args.bits c.if-bits-gt-INFINITY.true)) ∙ kept-nan

pub returns-else-bits-gt-INFINITY-clause-bits : goal.returns-else-bits-gt-INFINITY-clause-bits
returns-else-bits-gt-INFINITY-clause-bits c = kept-number c.args.bits c.ranges.bits.fits c.if-bits-gt-INFINITY.false
