use Rattle.ion_binary.proofs.Narrow.{narrow}
use Rattle.ion_binary.proofs.laws.limits_only_cut_short.Goals as goal

pub returns : goal.returns
returns c = narrow
