use Rattle.ion_float.proofs.Fewest.{none_shorter}
use Rattle.ion_float.proofs.laws.shortest_has_the_fewest_digits.Goals as goal

pub returns : goal.returns
returns c = none_shorter
