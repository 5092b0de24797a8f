use Rattle.ion_symbols.proofs.RefusedUsers as whole
use Rattle.ion_symbols.proofs.laws.why_users_stop.Goals as goal

pub returns : goal.returns
returns c = whole.why_users_stop
