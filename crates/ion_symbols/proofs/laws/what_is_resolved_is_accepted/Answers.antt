use Rattle.ion_symbols.proofs.ResolvedUsers.{what_is_resolved_is_accepted}
use Rattle.ion_symbols.proofs.laws.what_is_resolved_is_accepted.Goals as goal

pub returns : goal.returns
returns c = what_is_resolved_is_accepted
