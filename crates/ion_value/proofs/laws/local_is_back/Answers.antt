use Rattle.ion_value.proofs.Days.{local_is_back}
use Rattle.ion_value.proofs.laws.local_is_back.Goals as goal

pub returns : goal.returns
returns c = local_is_back
