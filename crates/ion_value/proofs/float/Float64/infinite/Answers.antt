use Rattle.std.proofs.Common.{◌∙◌, sym, ap}
use lib.Ieee.{inf}
use Rattle.ion_value.proofs.FloatBits.{infinite-bits, below-bits}
use Rattle.ion_value.proofs.float.Float64.infinite.Goals as goal

pub returns-then-negative : goal.returns-then-negative
returns-then-negative c = c.from_bits.ensures ∙ below-bits ∙ ap inf (sym c.if-negative.true)

pub returns-else-negative : goal.returns-else-negative
returns-else-negative c = c.from_bits-else-negative.ensures ∙ infinite-bits ∙ ap inf (sym c.if-negative.false)
