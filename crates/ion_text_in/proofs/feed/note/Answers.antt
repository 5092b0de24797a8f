use Rattle.ion_text_in.proofs.FeedLanes.{turns-none}
use Rattle.ion_text_in.proofs.FeedNoted.{first-room, start-noted}
use Rattle.ion_text_in.proofs.feed.note.Goals as goal

pub noted-requires-clause-some : goal.noted-requires-clause-some
noted-requires-clause-some g c = c.requires.word.within

pub rare-requires-clause-start : goal.rare-requires-clause-start
rare-requires-clause-start g c = start-noted c.requires.can.within c.requires.start c.requires.bare (c.in-Some.ensures c.args.bounds.limits c.requires.word (first-room c.args.bounds.limits.scalar c.args.start.note c.requires.bare))

pub returns-in-None : goal.returns-in-None
returns-in-None g c = turns-none c.requires.can
