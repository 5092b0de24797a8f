use Rattle.ion_value.proofs.TextDecimals.{int_text-is_read}
use Rattle.ion_value.proofs.laws.int_text_is_read.Goals as goal

pub returns : goal.returns
returns c = int_text-is_read
