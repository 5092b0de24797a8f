use Rattle.ion_text_in.proofs.FeedItems.{can-member, turns-member}
use Rattle.ion_text_in.proofs.FeedLanes.{turns-none}
use Rattle.ion_text_in.proofs.feed.quotes.quoted_turn.Goals as goal

pub to_quoted-requires-clause-within : goal.to_quoted-requires-clause-within
to_quoted-requires-clause-within g c = (can-member c.to_member-next.ensures.comma c.requires).within

pub rare-requires-clause-can : goal.rare-requires-clause-can
rare-requires-clause-can g c = can-member c.to_member-next.ensures.comma c.requires

pub returns-in-None : goal.returns-in-None
returns-in-None g c = let comma = c.to_member-next.ensures.comma in turns-member comma c.requires (turns-none (can-member comma c.requires))

pub returns-in-Some : goal.returns-in-Some
returns-in-Some g c = turns-member c.to_member-next.ensures.comma c.requires c.rare.ensures
