use Rattle.ion_text_in.proofs.Blobs as whole
use Rattle.ion_text_in.proofs.laws.base64_is_read.Goals as goal

pub returns : goal.returns
returns c = whole.base64_is_read
