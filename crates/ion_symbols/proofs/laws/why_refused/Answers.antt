use Rattle.ion_symbols.proofs.DeclarationMeaning.{why_it_is_refused}
use Rattle.ion_symbols.proofs.laws.why_refused.Goals as goal

pub returns : goal.returns
returns c = why_it_is_refused
