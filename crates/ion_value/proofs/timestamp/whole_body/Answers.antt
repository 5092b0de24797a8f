use Rattle.std.proofs.Common.{arith, [], ◌∷◌, take}
use Rattle.std.proofs.lemmas.List.{take_all}
use Rattle.ion_value.proofs.TimestampBodies.{whole-short}
use Rattle.std.proofs.lemmas.Grind.{common_steps}
use Rattle.ion_value.proofs.timestamp.whole_body.Goals as goal

pub returns-clause-room : goal.returns-clause-room
returns-clause-room c =
    let t = c.args.utc in
    let all = take_all c.loop-part.part-index (take c.parts.result (t.month ∷ t.day ∷ t.hour ∷ t.minute ∷ t.second ∷ [])) c.loop-part-test.false in
    rw (c.loop-part.invariant.so_far, all, c.parts.ensures) (whole-short t c.requires.moment c.requires.offset)

pub loop-part-preserved : goal.loop-part-preserved
loop-part-preserved c = grind (arith, common_steps)

pub returns-clause-body : goal.returns-clause-body
returns-clause-body c = grind (arith, common_steps)

pub loop-part-init : goal.loop-part-init
loop-part-init c = grind (arith, common_steps)

pub push-requires : goal.push-requires
push-requires c = grind (arith, common_steps)
