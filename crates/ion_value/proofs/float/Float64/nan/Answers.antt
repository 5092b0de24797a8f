use Rattle.ion_value.proofs.FloatBits.{kept-nan, nan_there}
use Rattle.ion_value.proofs.float.Float64.nan.Goals as goal

pub invariant_of-result : goal.invariant_of-result
invariant_of-result c = record { kept = kept-nan }

pub returns : goal.returns
returns c = nan_there
