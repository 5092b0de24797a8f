use Rattle.ion_float.proofs.TextReading.{shape-alike, alike-shape}
use Rattle.ion_float.proofs.laws.float_shape_is_refused.Goals as goal

pub returns : goal.returns
returns c = λ run. (alike-shape run, shape-alike run)
