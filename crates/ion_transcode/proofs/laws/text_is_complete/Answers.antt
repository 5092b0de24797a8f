use Rattle.ion_transcode.proofs.TextSound.{text-complete}
use Rattle.ion_transcode.proofs.laws.text_is_complete.Goals as goal

pub returns : goal.returns
returns c = text-complete c.what_is_spelled_is_read.ensures c.streams_are_read.ensures c.rightly_refused.ensures
