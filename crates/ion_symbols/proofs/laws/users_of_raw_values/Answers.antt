use Rattle.ion_symbols.proofs.RawUsers.{users_of_raw_values}
use Rattle.ion_symbols.proofs.laws.users_of_raw_values.Goals as goal

pub returns : goal.returns
returns c = users_of_raw_values
