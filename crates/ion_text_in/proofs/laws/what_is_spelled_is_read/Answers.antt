use Rattle.ion_text_in.proofs.Complete.{complete}
use Rattle.ion_text_in.proofs.laws.what_is_spelled_is_read.Goals as goal

pub returns : goal.returns
returns c = complete
