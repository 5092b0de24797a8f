use Rattle.ion_text_in.proofs.FeedLanes.{can-moved, moved-by, moved-none, moved-then}
use Rattle.ion_text_in.proofs.feed.feed_items.Goals as goal

pub runs-init : goal.runs-init
runs-init g c = moved-none c.requires

pub feed_frequent-at-requires : goal.feed_frequent-at-requires
feed_frequent-at-requires g c = can-moved c.requires c.runs.invariant

pub other_turns-requires : goal.other_turns-requires
other_turns-requires g c = can-moved (can-moved c.requires c.runs.invariant) c.feed_frequent-at.ensures

pub returns-then-not-other_turns : goal.returns-then-not-other_turns
returns-then-not-other_turns g c =
    moved-then c.requires (moved-then c.requires c.runs.invariant (moved-by (g.N.Names.text c.args.names.now) (g.N.Names.zero c.args.names.now) c.feed_frequent-at.ensures)) c.other_turns.ensures.moved

pub runs-preserved : goal.runs-preserved
runs-preserved g c =
    moved-then c.requires (moved-then c.requires c.runs.invariant (moved-by (g.N.Names.text c.args.names.now) (g.N.Names.zero c.args.names.now) c.feed_frequent-at.ensures)) c.other_turns.ensures.moved
