use Rattle.ion_float.proofs.Words.{shortest_nearest}
use Rattle.ion_float.proofs.laws.shortest_is_the_nearest.Goals as goal

pub returns : goal.returns
returns c = λ bits row digits p read few. shortest_nearest bits p digits row read few
