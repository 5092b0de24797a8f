use Rattle.std.proofs.Common.{arith}
use Rattle.ion_text_in.proofs.FeedLanes.{turns-none}
use Rattle.ion_text_in.proofs.feed.near_ids.Goals as goal

pub returns-then-not-is_dollar_near : goal.returns-then-not-is_dollar_near
returns-then-not-is_dollar_near g c = turns-none c.requires

pub returns : goal.returns
returns g c = record { moved = c.id_turns.ensures; less = λ goes_on. grind (arith, goes_on) }
