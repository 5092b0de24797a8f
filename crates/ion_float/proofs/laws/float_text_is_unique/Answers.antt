use Rattle.ion_float.proofs.RoundTrip.{text-unique}
use Rattle.ion_float.proofs.laws.float_text_is_unique.Goals as goal

pub returns : goal.returns
returns c = text-unique
