use Rattle.ion_text_in.proofs.FeedLanes.{can-moved, moved-by, turns-by, turns-then}
use Rattle.ion_text_in.proofs.feed.other_turns.Goals as goal

pub returns-then-quoted_turn : goal.returns-then-quoted_turn
returns-then-quoted_turn g c = turns-by (g.N.Names.text c.args.names.now) (g.N.Names.zero c.args.names.now) c.if-quoted_turn.true c.quoted_turn.ensures

pub near_ids-requires-2 : goal.near_ids-requires-2
near_ids-requires-2 g c = can-moved c.requires c.quoted_turn.ensures.moved

pub returns : goal.returns
returns g c = turns-then c.requires (moved-by (g.N.Names.text c.args.names.now) (g.N.Names.zero c.args.names.now) c.quoted_turn.ensures.moved) c.near_ids-2.ensures
