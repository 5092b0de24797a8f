use Rattle.std.proofs.Common.{refl}
use Rattle.ion_text_in.proofs.FeedIds.{head-zero}
use Rattle.ion_text_in.proofs.FeedReading.{found-as}
use Rattle.ion_text_in.proofs.feed.heads.zero_head.Goals as goal

pub returns : goal.returns
returns c = found-as c.found_as.ensures refl (head-zero c.next_told.result (c.is_zero_id.ensures c.if-not-is_zero_id.false) c.after-rest.ensures c.next_told.ensures c.if-next_told-eq0.false)
