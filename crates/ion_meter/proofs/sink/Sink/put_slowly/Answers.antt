use Rattle.std.proofs.Common.{◌∙◌, ◌↔◌, sym, subst, arith, ap, append_assoc, ◌++◌, List, ℕ}
use Rattle.std.proofs.lemmas.Grind.{common_steps}
use Rattle.ion_meter.proofs.Putting.{Puts-after, taken_part}
use Rattle.ion_meter.proofs.sink.Sink.put_slowly.Goals as goal

pub returns-in_err-make_room-clause-puts : goal.returns-in_err-make_room-clause-puts
returns-in_err-make_room-clause-puts g c =
    let inv = c.loop-at.invariant in
    λ _. Puts-after g.O.Output.written g.O.Output.observable c.args.self.now c.loop-at.self c.make_room.new.self c.args.bytes.now c.loop-at.at inv.observable inv.grown inv.bytes c.make_room.ensures.puts

pub loop-at-preserved : goal.loop-at-preserved
loop-at-preserved g c =
    let inv = c.loop-at.invariant in
    let puts = c.make_room.ensures.puts in
    record {
      within = grind (arith, common_steps, c.take-at.ensures.count);
      well = c.take-at.ensures.fault ∙ c.in_ok-make_room.ensures.well;
      begun = inv.begun;
      count = ap g.O.Output.failure_count c.take-at.ensures.device ∙ (c.in_ok-make_room.ensures.count ∙ inv.count);
      observable = subst (λ x. g.O.Output.observable x ↔ g.O.Output.observable c.args.self.now.device) (sym c.take-at.ensures.device) (λ t. inv.observable.0 (puts.still_observable.0 t), λ t. puts.still_observable.1 (inv.observable.1 t));
      grown = λ t. let a = inv.grown t in let b = puts.grown (inv.observable.1 t) in (a.0 ++ b.0, ap g.O.Output.written c.take-at.ensures.device ∙ (b.1 ∙ (ap (λ (l : List ℕ). l ++ b.0) a.1 ∙ append_assoc (g.O.Output.written c.args.self.now.device) a.0 b.0)));
      bytes = λ t. taken_part g.O.Output.written c.args.self.now c.loop-at.self c.make_room.new.self c.take-at.new.self c.args.bytes.now c.loop-at.at c.take-at.result
          (inv.bytes t) (c.in_ok-make_room.ensures.ok (inv.observable.1 t)) c.take-at.ensures.device c.take-at.ensures.pending;
    }

pub returns-clause-puts : goal.returns-clause-puts
returns-clause-puts g c = grind (arith, common_steps)

pub loop-at-init : goal.loop-at-init
loop-at-init g c = grind (arith, common_steps)

pub returns-in-Some-clause-puts : goal.returns-in-Some-clause-puts
returns-in-Some-clause-puts g c = grind (arith, common_steps)

pub returns-clause-ok : goal.returns-clause-ok
returns-clause-ok g c = grind (arith, common_steps)
