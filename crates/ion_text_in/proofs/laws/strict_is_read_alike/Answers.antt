use Rattle.ion_text_in.proofs.Refused as whole
use Rattle.ion_text_in.proofs.laws.strict_is_read_alike.Goals as goal

pub returns : goal.returns
returns c = whole.strict_is_read_alike
