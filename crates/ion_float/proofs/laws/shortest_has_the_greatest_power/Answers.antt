use Rattle.ion_float.proofs.Fewest.{none_greater}
use Rattle.ion_float.proofs.laws.shortest_has_the_greatest_power.Goals as goal

pub returns : goal.returns
returns c = none_greater
