use Rattle.ion_symbols.proofs.DeclarationMeaning.{what_is_said}
use Rattle.ion_symbols.proofs.UserReadings.{what_is_accepted_is_resolved_by}
use Rattle.ion_symbols.proofs.laws.what_is_accepted_is_resolved.Goals as goal

pub returns : goal.returns
returns c = what_is_accepted_is_resolved_by what_is_said
