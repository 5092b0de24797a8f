use Rattle.ion_text_in.proofs.Refused as whole
use Rattle.ion_text_in.proofs.laws.streams_within_limits_are_read.Goals as goal

pub returns : goal.returns
returns c = whole.streams_within_limits
