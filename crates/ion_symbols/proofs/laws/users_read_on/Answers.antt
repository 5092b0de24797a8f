use Rattle.ion_symbols.proofs.ReadOn.{users-read-on}
use Rattle.ion_symbols.proofs.laws.users_read_on.Goals as goal

pub returns : goal.returns
returns c = users-read-on
