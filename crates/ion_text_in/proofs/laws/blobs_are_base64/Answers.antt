use Rattle.ion_text_in.proofs.Blobs as whole
use Rattle.ion_text_in.proofs.laws.blobs_are_base64.Goals as goal

pub returns : goal.returns
returns c = whole.blobs_are_base64
