use Rattle.ion_binary.proofs.Below.{arith, common_steps}
use Rattle.ion_binary.proofs.HandingKeeps.{hands-none}
use Rattle.ion_binary.proofs.reader.BinReader.hand.Goals as goal

pub ends_here-requires : goal.ends_here-requires
ends_here-requires g c = record { top = λ none. omega (arith, c.place.ensures, c.requires.around.top none, c.requires.can_hand.stands.within, c.requires.can_hand.stands.small) }

pub returns-then-this-ne-MOST : goal.returns-then-this-ne-MOST
returns-then-this-ne-MOST g c = hands-none g.W.ValueWriter c.requires.can_hand (g.met.W.ValueWriter.within c.args.writer.now c.requires.can_hand.writer.sound)

pub hand_member-requires : goal.hand_member-requires
hand_member-requires g c = record { can_hand = c.requires.can_hand; around = c.requires.around; goes_on = grind (arith, common_steps) steps 400000 }

pub hand_end-requires : goal.hand_end-requires
hand_end-requires g c = record { can_hand = c.requires.can_hand; around = c.requires.around; ends = grind (arith, common_steps) steps 400000 }

pub returns-then-ends_here : goal.returns-then-ends_here
returns-then-ends_here g c = c.hand_end.ensures

pub returns : goal.returns
returns g c = c.hand_member.ensures
