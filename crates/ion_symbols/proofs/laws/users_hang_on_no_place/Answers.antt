use Rattle.ion_symbols.proofs.NoPlaces.{users-hang-on-no-place, tables-hang-on-no-place}
use Rattle.ion_symbols.proofs.laws.users_hang_on_no_place.Goals as goal

pub returns : goal.returns
returns c = record { values = users-hang-on-no-place; tables = tables-hang-on-no-place }
