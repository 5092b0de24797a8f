use Rattle.ion_binary.proofs.NumbersFit.{numbers_fit}
use Rattle.ion_binary.proofs.laws.numbers_fit.Goals as goal

pub returns : goal.returns
returns c = numbers_fit
