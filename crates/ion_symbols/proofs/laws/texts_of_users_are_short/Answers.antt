use Rattle.ion_symbols.proofs.UserTexts as texts
use Rattle.ion_symbols.proofs.laws.texts_of_users_are_short.Goals as goal

pub returns : goal.returns
returns c = texts.texts_of_users_are_short
