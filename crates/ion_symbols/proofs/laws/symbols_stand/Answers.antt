use Rattle.ion_symbols.proofs.DeclarationMeaning.{what_is_said}
use Rattle.ion_symbols.proofs.UserReadings.{symbols_stand_by}
use Rattle.ion_symbols.proofs.laws.symbols_stand.Goals as goal

pub returns : goal.returns
returns c = symbols_stand_by what_is_said
