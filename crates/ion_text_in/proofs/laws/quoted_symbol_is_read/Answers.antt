use Rattle.ion_text_in.proofs.Strings as whole
use Rattle.ion_text_in.proofs.laws.quoted_symbol_is_read.Goals as goal

pub returns : goal.returns
returns c = whole.symbol-means
