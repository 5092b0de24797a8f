use Rattle.ion_float.proofs.RoundTrip.{text-read}
use Rattle.ion_float.proofs.laws.float_text_is_read.Goals as goal

pub returns : goal.returns
returns c = text-read
