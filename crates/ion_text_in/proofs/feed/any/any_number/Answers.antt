use Rattle.ion_text_in.proofs.FeedLanes.{turns-none}
use Rattle.ion_text_in.proofs.feed.any.any_number.Goals as goal

pub returns-in_default : goal.returns-in_default
returns-in_default g c = turns-none c.requires.can
