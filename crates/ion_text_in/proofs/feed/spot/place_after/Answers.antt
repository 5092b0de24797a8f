use Rattle.std.proofs.Common.{arith}
use Rattle.ion_text_in.proofs.FeedNames.{next-within}
use Rattle.ion_text_in.proofs.feed.spot.place_after.Goals as goal

pub returns : goal.returns
returns c =
    let fewer = next-within c.requires.next in
    let within = c.requires.within in
    grind (arith, fewer, within, c.saturating_sub.ensures)
