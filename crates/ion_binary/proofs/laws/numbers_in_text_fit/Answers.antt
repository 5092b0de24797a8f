use Rattle.ion_binary.proofs.ShortNumbers as short
use Rattle.ion_binary.proofs.laws.numbers_in_text_fit.Goals as goal

pub returns : goal.returns
returns c = short.numbers_in_text_fit c.numbers_fit.ensures
