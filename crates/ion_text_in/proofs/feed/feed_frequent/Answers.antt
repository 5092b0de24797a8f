use Rattle.ion_text_in.proofs.FeedLanes.{can-moved, moved-none, moved-then}
use Rattle.ion_text_in.proofs.feed.feed_frequent.Goals as goal

pub items-init : goal.items-init
items-init g c = moved-none c.requires

pub turn-requires : goal.turn-requires
turn-requires g c = can-moved c.requires c.items.invariant

pub returns-then-not-turn : goal.returns-then-not-turn
returns-then-not-turn g c = moved-then c.requires c.items.invariant c.turn.ensures.moved

pub items-preserved : goal.items-preserved
items-preserved g c = moved-then c.requires c.items.invariant c.turn.ensures.moved
