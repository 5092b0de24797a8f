use Rattle.ion_text_in.proofs.Narrow.{narrow}
use Rattle.ion_text_in.proofs.laws.limits_only_cut_short.Goals as goal

pub returns : goal.returns
returns c = narrow
