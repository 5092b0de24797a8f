use Rattle.ion_binary.proofs.ShortValues.{what_is_within_is_short}
use Rattle.ion_binary.proofs.laws.what_is_within_is_short.Goals as goal

pub returns : goal.returns
returns c = what_is_within_is_short
