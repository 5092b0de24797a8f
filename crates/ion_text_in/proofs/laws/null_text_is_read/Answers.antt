use Rattle.ion_text_in.proofs.Meaning as whole
use Rattle.ion_text_in.proofs.laws.null_text_is_read.Goals as goal

pub returns : goal.returns
returns c = whole.null-means
