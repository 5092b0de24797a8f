use Rattle.ion_text_in.proofs.FeedLanes.{can-moved, moved-none, moved-then}
use Rattle.ion_text_in.proofs.feed.ids.id_turns.Goals as goal

pub items-init : goal.items-init
items-init g c = moved-none c.requires

pub id_turn-requires : goal.id_turn-requires
id_turn-requires g c = can-moved c.requires c.items.invariant

pub returns-then-not-id_turn : goal.returns-then-not-id_turn
returns-then-not-id_turn g c = moved-then c.requires c.items.invariant c.id_turn.ensures.moved

pub items-preserved : goal.items-preserved
items-preserved g c = moved-then c.requires c.items.invariant c.id_turn.ensures.moved
