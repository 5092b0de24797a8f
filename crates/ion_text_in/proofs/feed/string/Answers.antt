use Rattle.ion_text_in.proofs.FeedLanes.{turns-none}
use Rattle.ion_text_in.proofs.feed.string.Goals as goal

pub returns-in-None : goal.returns-in-None
returns-in-None g c = turns-none c.requires.can
