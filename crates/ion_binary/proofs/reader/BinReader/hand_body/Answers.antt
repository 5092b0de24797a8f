use Rattle.ion_binary.proofs.Below.{arith, common_steps}
use Rattle.ion_binary.proofs.HandingKeeps.{hands-none}
use Rattle.ion_binary.proofs.reader.BinReader.hand_body.Goals as goal

pub hand_scalar-requires : goal.hand_scalar-requires
hand_scalar-requires g c = record { item = c.requires.item; within = c.requires.within; is = grind (arith, common_steps) steps 400000 }

pub hand_scalar-requires-in-3 : goal.hand_scalar-requires-in-3
hand_scalar-requires-in-3 g c = record { item = c.requires.item; within = c.requires.within; is = grind (arith, common_steps) steps 400000 }

pub hand_scalar-requires-in-5 : goal.hand_scalar-requires-in-5
hand_scalar-requires-in-5 g c = record { item = c.requires.item; within = c.requires.within; is = grind (arith, common_steps) steps 400000 }

pub hand_scalar-requires-in-6 : goal.hand_scalar-requires-in-6
hand_scalar-requires-in-6 g c = record { item = c.requires.item; within = c.requires.within; is = grind (arith, common_steps) steps 400000 }

pub hand_scalar-requires-in-7 : goal.hand_scalar-requires-in-7
hand_scalar-requires-in-7 g c = record { item = c.requires.item; within = c.requires.within; is = grind (arith, common_steps) steps 400000 }

pub hand_scalar-requires-in-8 : goal.hand_scalar-requires-in-8
hand_scalar-requires-in-8 g c = record { item = c.requires.item; within = c.requires.within; is = grind (arith, common_steps) steps 400000 }

pub returns-in-2 : goal.returns-in-2
returns-in-2 g c = c.hand_scalar.ensures

pub returns-in-3 : goal.returns-in-3
returns-in-3 g c = c.hand_scalar-in-3.ensures

pub returns-in-5 : goal.returns-in-5
returns-in-5 g c = c.hand_scalar-in-5.ensures

pub returns-in-6 : goal.returns-in-6
returns-in-6 g c = c.hand_scalar-in-6.ensures

pub returns-in-7 : goal.returns-in-7
returns-in-7 g c = c.hand_scalar-in-7.ensures

pub returns-in-8 : goal.returns-in-8
returns-in-8 g c = c.hand_scalar-in-8.ensures

pub returns-in_default : goal.returns-in_default
returns-in_default g c = hands-none g.W.ValueWriter c.requires.item.member.can_hand (g.met.W.ValueWriter.within c.args.writer.now c.requires.item.member.can_hand.writer.sound)
