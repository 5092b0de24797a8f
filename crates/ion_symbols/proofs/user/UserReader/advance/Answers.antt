use Rattle.std.proofs.Common.{◌-◌, ◌^◌, ◌<◌, sym, subst, arith}
use Rattle.std.proofs.lemmas.Grind.{common_steps}
use Rattle.ion_symbols.proofs.user.UserReader.advance.Goals as goal

pub loop-fault-init : goal.loop-fault-init
loop-fault-init g c = grind (arith, common_steps, g.met.R.RawReader.not_read c.args.self.now.raw)

pub turn-requires : goal.turn-requires
turn-requires g c =
    let i = c.loop-fault.invariant in
    let can = c.requires.can_turn in
    let w = g.met.R.RawReader.within c.loop-fault.self.raw i.ready.raw in
    record {
      can_turn = record {
        room = omega (arith, i.charges.held, can.room, can.held, w.share, w.small, i.ready.cheap, i.ready.checked.symbols);
        held = omega (arith, i.charges.held, can.held);
        countable = subst (λ n. n < 2 ^ 64 - 1) (sym i.refused) can.countable;
        ready = i.ready;
        well = i.well;
      };
    }

pub returns-in-Err-clause-gives : goal.returns-in-Err-clause-gives
returns-in-Err-clause-gives g c = grind (arith, common_steps)

pub returns-in-Err-clause-falls : goal.returns-in-Err-clause-falls
returns-in-Err-clause-falls g c = grind (arith, common_steps)

pub returns-in-Err-clause-causes : goal.returns-in-Err-clause-causes
returns-in-Err-clause-causes g c = grind (arith, common_steps)

pub returns-in-Err-clause-steps : goal.returns-in-Err-clause-steps
returns-in-Err-clause-steps g c =
    let on = g.met.R.RawReader.read_more c.args.self.now.raw c.loop-fault.self.raw c.turn.new.self.raw c.loop-fault.invariant.read_on c.turn.ensures.steps.read_on in
    grind (arith, common_steps, on)

pub returns-in-Ok-Ended-clause-gives : goal.returns-in-Ok-Ended-clause-gives
returns-in-Ok-Ended-clause-gives g c = grind (arith, common_steps)

pub returns-in-Ok-Ended-clause-falls : goal.returns-in-Ok-Ended-clause-falls
returns-in-Ok-Ended-clause-falls g c = grind (arith, common_steps)

pub returns-in-Ok-Ended-clause-causes : goal.returns-in-Ok-Ended-clause-causes
returns-in-Ok-Ended-clause-causes g c = grind (arith, common_steps)

pub returns-in-Ok-Ended-clause-steps : goal.returns-in-Ok-Ended-clause-steps
returns-in-Ok-Ended-clause-steps g c =
    let on = g.met.R.RawReader.read_more c.args.self.now.raw c.loop-fault.self.raw c.turn.new.self.raw c.loop-fault.invariant.read_on c.turn.ensures.steps.read_on in
    grind (arith, common_steps, on)

pub returns-in-Ok-Item-clause-gives : goal.returns-in-Ok-Item-clause-gives
returns-in-Ok-Item-clause-gives g c = grind (arith, common_steps)

pub returns-in-Ok-Item-clause-falls : goal.returns-in-Ok-Item-clause-falls
returns-in-Ok-Item-clause-falls g c = grind (arith, common_steps)

pub returns-in-Ok-Item-clause-causes : goal.returns-in-Ok-Item-clause-causes
returns-in-Ok-Item-clause-causes g c = grind (arith, common_steps)

pub returns-in-Ok-Item-clause-steps : goal.returns-in-Ok-Item-clause-steps
returns-in-Ok-Item-clause-steps g c =
    let on = g.met.R.RawReader.read_more c.args.self.now.raw c.loop-fault.self.raw c.turn.new.self.raw c.loop-fault.invariant.read_on c.turn.ensures.steps.read_on in
    grind (arith, common_steps, on)

pub loop-fault-smaller : goal.loop-fault-smaller
loop-fault-smaller g c = grind (arith, common_steps)

pub loop-fault-preserved : goal.loop-fault-preserved
loop-fault-preserved g c =
    let on = g.met.R.RawReader.read_more c.args.self.now.raw c.loop-fault.self.raw c.turn.new.self.raw c.loop-fault.invariant.read_on c.turn.ensures.steps.read_on in
    grind (arith, common_steps, on)
