use Rattle.std.proofs.Common.{refl}
use Rattle.ion_text_in.proofs.FeedHeads.{head-string}
use Rattle.ion_text_in.proofs.FeedReading.{found-as}
use Rattle.ion_text_in.proofs.feed.heads.string_head.Goals as goal

pub returns : goal.returns
returns c = found-as c.found_as.ensures refl (head-string c.in-Some.ensures c.requires)
