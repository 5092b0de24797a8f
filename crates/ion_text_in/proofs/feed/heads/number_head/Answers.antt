use Rattle.ion_text_in.proofs.FeedReading.{found-number}
use Rattle.ion_text_in.proofs.feed.heads.number_head.Goals as goal

pub returns : goal.returns
returns c = let e = c.in-Some.ensures in found-number c.in-Some.quick c.quick_head.ensures c.after.ensures e.some c.spelled_quick.ensures e.shows e.range c.requires
