use Rattle.ion_binary.proofs.ShortSymbols as short
use Rattle.ion_binary.proofs.laws.texts_within_fit.Goals as goal

pub returns : goal.returns
returns c = short.texts_within_fit
