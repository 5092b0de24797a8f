use Rattle.ion_float.proofs.Fewest.{no_last_zero}
use Rattle.ion_float.proofs.laws.shortest_ends_in_no_zero.Goals as goal

pub returns : goal.returns
returns c = no_last_zero
