use Rattle.ion_symbols.proofs.DeclarationMeaning.{what_is_said}
use Rattle.ion_symbols.proofs.laws.what_is_declared.Goals as goal

pub returns : goal.returns
returns c = what_is_said
