use Rattle.ion_transcode.proofs.ReadAgain.{layouts-are-alike}
use Rattle.ion_transcode.proofs.laws.layouts_are_alike.Goals as goal

pub returns : goal.returns
returns c = layouts-are-alike c.each_layout_is_read.ensures c.one_stream.ensures
