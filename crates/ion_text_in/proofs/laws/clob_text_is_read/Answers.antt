use Rattle.ion_text_in.proofs.Strings as whole
use Rattle.ion_text_in.proofs.laws.clob_text_is_read.Goals as goal

pub returns : goal.returns
returns c = whole.clob-means
