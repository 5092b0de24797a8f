use Rattle.ion_text_in.proofs.FeedItems.{can-member, turns-member}
use Rattle.ion_text_in.proofs.feed.turn.Goals as goal

pub close-requires-clause-can : goal.close-requires-clause-can
close-requires-clause-can g c = can-member c.to_member-next.ensures.comma c.requires

pub value-requires-clause-can : goal.value-requires-clause-can
value-requires-clause-can g c = can-member c.to_member-next.ensures.comma c.requires

pub returns-in-Some : goal.returns-in-Some
returns-in-Some g c = turns-member c.to_member-next.ensures.comma c.requires c.close.ensures

pub returns-in-None : goal.returns-in-None
returns-in-None g c = turns-member c.to_member-next.ensures.comma c.requires c.value.ensures
