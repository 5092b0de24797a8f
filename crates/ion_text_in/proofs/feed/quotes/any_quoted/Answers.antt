use Rattle.ion_text_in.proofs.FeedLanes.{turns-none}
use Rattle.ion_text_in.proofs.FeedNoted.{first-room, start-noted}
use Rattle.ion_text_in.proofs.feed.quotes.any_quoted.Goals as goal

pub quoted_noted-requires-clause-room : goal.quoted_noted-requires-clause-room
quoted_noted-requires-clause-room g c = first-room c.args.bounds.limits.scalar c.args.start.note c.requires.bare

pub any_value-requires-clause-start : goal.any_value-requires-clause-start
any_value-requires-clause-start g c = start-noted c.requires.can.within c.requires.start c.requires.bare c.in-Some-quoted_noted.ensures

pub returns-in-None : goal.returns-in-None
returns-in-None g c = turns-none c.requires.can
