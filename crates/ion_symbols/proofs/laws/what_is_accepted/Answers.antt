use Rattle.ion_symbols.proofs.Accepted as whole
use Rattle.ion_symbols.proofs.laws.what_is_accepted.Goals as goal

pub returns : goal.returns
returns c = whole.what_is_accepted
