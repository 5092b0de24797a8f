use Rattle.ion_value.proofs.Days.{utc_is_back}
use Rattle.ion_value.proofs.laws.utc_is_back.Goals as goal

pub returns : goal.returns
returns c = utc_is_back
