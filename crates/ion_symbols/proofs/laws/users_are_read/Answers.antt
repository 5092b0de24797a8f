use Rattle.ion_symbols.proofs.DeclarationMeaning.{what_is_said}
use Rattle.ion_symbols.proofs.UserReadings.{users_are_read_by}
use Rattle.ion_symbols.proofs.laws.users_are_read.Goals as goal

pub returns : goal.returns
returns c = users_are_read_by what_is_said
