use Rattle.ion_text_in.proofs.Complete as whole
use Rattle.ion_text_in.proofs.laws.streams_are_read.Goals as goal

pub returns : goal.returns
returns c = whole.streams_are_read
