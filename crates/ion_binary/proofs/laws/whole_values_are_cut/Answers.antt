use Rattle.ion_binary.proofs.Cutting.{whole-values-are-cut}
use Rattle.ion_binary.proofs.laws.whole_values_are_cut.Goals as goal

pub returns : goal.returns
returns c = whole-values-are-cut
