use Rattle.ion_text_in.proofs.Refused as whole
use Rattle.ion_text_in.proofs.laws.rightly_refused.Goals as goal

pub returns : goal.returns
returns c = whole.rightly_refused
