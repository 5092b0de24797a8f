use Rattle.ion_text_in.proofs.One as whole
use Rattle.ion_text_in.proofs.laws.one_stream.Goals as goal

pub returns : goal.returns
returns c = whole.one_stream
