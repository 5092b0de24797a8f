use Rattle.ion_text_in.proofs.Narrow as whole
use Rattle.ion_text_in.proofs.laws.limits_are_exact.Goals as goal

pub returns : goal.returns
returns c = whole.exact_limits
