use Rattle.ion_text_in.proofs.FeedLanes.{turns-none}
use Rattle.ion_text_in.proofs.feed.word.Goals as goal

pub returns-in_default : goal.returns-in_default
returns-in_default g c = turns-none c.requires.can

pub returns-in-None-keyword_head : goal.returns-in-None-keyword_head
returns-in-None-keyword_head g c = turns-none c.requires.can
