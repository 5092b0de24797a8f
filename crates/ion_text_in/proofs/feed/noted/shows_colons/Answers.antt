use Rattle.std.proofs.Common.{◌≤◌, length, arith}
use Rattle.ion_text_in.proofs.FeedNoted.{colons-begin}
use Rattle.ion_text_in.proofs.feed.noted.shows_colons.Goals as goal

pub returns-clause-begins : goal.returns-clause-begins
returns-clause-begins c _ =
    let bytes = c.args.bytes.now in
    let two : 2 ≤ length bytes = grind (arith, c.if-bytes-lt2.false) in
    colons-begin bytes two (grind (arith, c.if-bytes-ne58.false)) (grind (arith, c.if-bytes-ne58-2.false))
