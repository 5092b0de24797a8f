use Rattle.ion_value.proofs.TextDecimals.{one-shape}
use Rattle.ion_value.proofs.laws.one_shape.Goals as goal

pub returns : goal.returns
returns c = one-shape
