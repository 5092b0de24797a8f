use Rattle.ion_value.proofs.TextRoundTrip.{text-read}
use Rattle.ion_value.proofs.laws.timestamp_text_is_read.Goals as goal

pub returns : goal.returns
returns c = text-read
