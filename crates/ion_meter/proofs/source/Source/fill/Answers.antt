use Rattle.std.proofs.Common.{◌-◌, [], List, ℕ, take, drop, arith, sym, ◌∙◌, refl, append-nil}
use Rattle.std.proofs.lemmas.Grind.{common_steps}
use Rattle.ion_meter.proofs.Window.{copied_through, left_read, left_unread, read_after, read_nothing}
use Rattle.ion_meter.proofs.ReadOn.{read_on-once, reads_on-by}
use Rattle.ion_meter.proofs.source.Source.fill.Goals as goal

pub returns-in_default-clause-kept : goal.returns-in_default-clause-kept
returns-in_default-clause-kept g c =
    let s = c.self.inside in
    let buffered : List ℕ = drop s.start (take s.end s.window.value) in
    let copied = copied_through s.window.value c.deref_mut.result.now c.copy_within.new.self c.deref_mut-2.result.now s.start s.end c.deref_mut.ensures.value c.copy_within.ensures.after c.deref_mut-2.ensures.value in
    let same = read_nothing s.window.value c.deref_mut-2.result.now c.read.new.into s.start s.end (4096 - (s.end - s.start)) (omega arith) (omega arith) copied in
    rw (← c.self.view_is) (record {
      prefix = ([], same ∙ sym (append-nil _));
      place = omega arith;
      limit = refl;
      read_on = reads_on-by g.I.Input s.device c.read.new.self (read_on-once g.I.Input s.device c.read.new.self [] c.in_default.ensures.yields c.read.ensures.observable (λ t. sym (c.in_default.ensures.bytes t)));
      still_observable = c.read.ensures.observable;
      same_left = λ t. left_unread buffered _ _ _ same (c.in_default.ensures.bytes t);
    })

pub returns-clause-kept : goal.returns-clause-kept
returns-clause-kept g c =
    let s = c.self.inside in
    let buffered : List ℕ = drop s.start (take s.end s.window.value) in
    let copied = copied_through s.window.value c.deref_mut.result.now c.copy_within.new.self c.deref_mut-2.result.now s.start s.end c.deref_mut.ensures.value c.copy_within.ensures.after c.deref_mut-2.ensures.value in
    let same = read_after s.window.value c.deref_mut-2.result.now c.read.new.into s.start s.end (4096 - (s.end - s.start)) c.in-Ok.n (omega arith) (omega arith) copied c.in-Ok.ensures.within in
    rw (← c.self.view_is) (record {
      prefix = (take c.in-Ok.n c.read.new.into, same);
      place = omega arith;
      limit = refl;
      read_on = reads_on-by g.I.Input s.device c.read.new.self (read_on-once g.I.Input s.device c.read.new.self (take c.in-Ok.n c.read.new.into) c.in-Ok.ensures.yields c.read.ensures.observable c.in-Ok.ensures.bytes);
      still_observable = c.read.ensures.observable;
      same_left = λ t. left_read buffered _ (take c.in-Ok.n c.read.new.into) _ _ same (c.in-Ok.ensures.bytes t);
    })

pub invariant_of-self-2 : goal.invariant_of-self-2
invariant_of-self-2 g c = grind (arith, common_steps) steps 400000

pub returns-in_default-clause-lost : goal.returns-in_default-clause-lost
returns-in_default-clause-lost g c =
    let s = c.self.inside in
    let copied = copied_through s.window.value c.deref_mut.result.now c.copy_within.new.self c.deref_mut-2.result.now s.start s.end c.deref_mut.ensures.value c.copy_within.ensures.after c.deref_mut-2.ensures.value in
    rw (← c.self.view_is) (read_nothing s.window.value c.deref_mut-2.result.now c.read.new.into s.start s.end (4096 - (s.end - s.start)) (omega arith) (omega arith) copied)

pub returns-clause-more : goal.returns-clause-more
returns-clause-more g c = grind (arith, common_steps)

pub invariant_of-self : goal.invariant_of-self
invariant_of-self g c = grind (arith, common_steps)

pub returns-clause-count : goal.returns-clause-count
returns-clause-count g c = grind (arith, common_steps)

pub returns-in_default-clause-count : goal.returns-in_default-clause-count
returns-in_default-clause-count g c = grind (arith, common_steps)
