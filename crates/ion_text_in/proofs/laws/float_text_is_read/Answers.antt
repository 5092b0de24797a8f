use Rattle.ion_text_in.proofs.FloatTexts as whole
use Rattle.ion_text_in.proofs.laws.float_text_is_read.Goals as goal

pub returns : goal.returns
returns c = whole.float-text-means
