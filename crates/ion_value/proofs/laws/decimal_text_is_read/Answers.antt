use Rattle.ion_value.proofs.DecimalRoundTrip.{decimal_text-is_read}
use Rattle.ion_value.proofs.laws.decimal_text_is_read.Goals as goal

pub returns : goal.returns
returns c = decimal_text-is_read
