use Rattle.std.proofs.Common.{refl}
use Rattle.ion_text_in.proofs.FeedReading.{found-as, head-begin}
use Rattle.ion_text_in.proofs.feed.heads.begin_head.Goals as goal

pub returns : goal.returns
returns c = found-as c.found_as.ensures refl (head-begin c.args.limits c.args.place c.args.kind c.args.bytes.now c.after.result.now c.after.ensures c.requires)
