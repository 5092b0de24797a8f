use Rattle.ion_symbols.proofs.DeclarationReadings.{declarations_are_read}
use Rattle.ion_symbols.proofs.laws.declarations_are_read.Goals as goal

pub returns : goal.returns
returns c = declarations_are_read
