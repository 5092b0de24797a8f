use Rattle.ion_binary.proofs.WithinLimits.{none_is_refused_within}
use Rattle.ion_binary.proofs.laws.none_is_refused_within.Goals as goal

pub returns : goal.returns
returns c = none_is_refused_within
