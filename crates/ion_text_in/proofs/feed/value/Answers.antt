use Rattle.ion_text_in.proofs.FeedLanes.{turns-none}
use Rattle.ion_text_in.proofs.feed.value.Goals as goal

pub returns-in_default : goal.returns-in_default
returns-in_default g c = turns-none c.requires.can

pub returns-in_default-token : goal.returns-in_default-token
returns-in_default-token g c = turns-none c.requires.can

pub returns-in_default-token-2 : goal.returns-in_default-token-2
returns-in_default-token-2 g c = turns-none c.requires.can
