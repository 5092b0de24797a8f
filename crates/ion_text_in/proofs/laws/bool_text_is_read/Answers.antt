use Rattle.ion_text_in.proofs.Meaning as whole
use Rattle.ion_text_in.proofs.laws.bool_text_is_read.Goals as goal

pub returns : goal.returns
returns c = whole.bool-means
