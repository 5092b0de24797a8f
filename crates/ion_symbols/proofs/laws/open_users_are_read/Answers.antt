use Rattle.ion_symbols.proofs.DeclarationMeaning.{what_is_said}
use Rattle.ion_symbols.proofs.OpenUsers.{open_users_are_read_by}
use Rattle.ion_symbols.proofs.laws.open_users_are_read.Goals as goal

pub returns : goal.returns
returns c = open_users_are_read_by what_is_said
