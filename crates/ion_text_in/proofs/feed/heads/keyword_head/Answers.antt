use Rattle.std.proofs.Common.{refl}
use Rattle.ion_text_in.proofs.FeedHeads.{head-keyword}
use Rattle.ion_text_in.proofs.FeedReading.{found-as}
use Rattle.ion_text_in.proofs.feed.heads.keyword_head.Goals as goal

pub returns-in-Null : goal.returns-in-Null
returns-in-Null c = found-as c.found_as.ensures refl (head-keyword c.in-Null.is refl tt tt c.after-rest.ensures c.requires.shows c.requires.begins)

pub returns-in-Bool : goal.returns-in-Bool
returns-in-Bool c = found-as c.found_as-in-Bool.ensures refl (head-keyword c.in-Bool.is refl tt tt c.after-rest.ensures c.requires.shows c.requires.begins)
