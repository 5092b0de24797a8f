use Rattle.std.proofs.Common.{arith}
use Rattle.ion_text_in.proofs.FeedItems.{can-member, turns-member}
use Rattle.ion_text_in.proofs.FeedLanes.{turns-none}
use Rattle.ion_text_in.proofs.FeedNoted.{start-part}
use Rattle.ion_text_in.proofs.feed.ids.id_turn.Goals as goal

pub id_start-requires-clause-within : goal.id_start-requires-clause-within
id_start-requires-clause-within g c = (can-member c.to_member-next.ensures.comma c.requires).within

pub id_found-requires-clause-within : goal.id_found-requires-clause-within
id_found-requires-clause-within g c =
    let within = (can-member c.to_member-next.ensures.comma c.requires).within in
    let fewer = (start-part c.in-Some.ensures.read).1 in
    omega (arith, fewer, within)

pub returns-in_default : goal.returns-in_default
returns-in_default g c = let comma = c.to_member-next.ensures.comma in turns-member comma c.requires (turns-none (can-member comma c.requires))

pub returns-in_default-id_found : goal.returns-in_default-id_found
returns-in_default-id_found g c = let comma = c.to_member-next.ensures.comma in turns-member comma c.requires (turns-none (can-member comma c.requires))

pub forward_any-requires-clause-can : goal.forward_any-requires-clause-can
forward_any-requires-clause-can g c = can-member c.to_member-next.ensures.comma c.requires

pub returns : goal.returns
returns g c = turns-member c.to_member-next.ensures.comma c.requires (c.forward_any.ensures (g.N.Names.text c.args.names.now) c.in-Some.ensures c.in-Some-id_found.ensures)
