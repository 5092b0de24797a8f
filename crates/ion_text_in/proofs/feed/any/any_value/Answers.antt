use Rattle.std.proofs.Common.{arith}
use Rattle.ion_text_in.proofs.FeedIds.{found-read, start-read, turns-text}
use Rattle.ion_text_in.proofs.FeedLanes.{turns-none}
use Rattle.ion_text_in.proofs.FeedNoted.{start-part}
use Rattle.ion_text_in.proofs.feed.any.any_value.Goals as goal

pub with_second-further-requires-clause-within : goal.with_second-further-requires-clause-within
with_second-further-requires-clause-within g c =
    let ahead = (start-part c.requires.start).1 in
    let within = c.requires.can.within in
    omega (arith, ahead, within)

pub returns-in_default : goal.returns-in_default
returns-in_default g c = turns-none c.requires.can

pub forward_any-more-requires-clause-start : goal.forward_any-more-requires-clause-start
forward_any-more-requires-clause-start g c = start-read (c.with_second-further.ensures c.args.spot c.requires.can.within c.requires.start)

pub forward_any-more-requires-clause-found : goal.forward_any-more-requires-clause-found
forward_any-more-requires-clause-found g c = found-read c.in-Some.ensures

pub returns : goal.returns
returns g c = turns-text (c.with_second-further.ensures c.args.spot c.requires.can.within c.requires.start) c.in-Some.ensures c.forward_any-more.ensures
