use Rattle.ion_float.proofs.Words.{shortest_by_words}
use Rattle.ion_float.proofs.laws.what_the_shortest_is.Goals as goal

pub returns : goal.returns
returns c = shortest_by_words
