use Rattle.std.proofs.Common.{◌≡◌, false, true, Ok, ap, sym, subst, ◌∙◌, arith, refl, length, Some}
use Rattle.std.proofs.lemmas.Grind.{common_steps, elements}
use Rattle.ion_meter.specs.declared.fault.Fault.TheVariants.{Memory, ReadFault, Refused}
use Rattle.ion_value.specs.Items.{raw_item}
use Rattle.ion_value.specs.Reading.{More}
use Rattle.ion_value.specs.Standing.{is_marker}
use Rattle.ion_symbols.specs.Users.{begins_declaration, checked, level_after, users, plain, resolve}
use Rattle.ion_symbols.specs.User.{CheckedAs}
use Rattle.ion_symbols.specs.Table.{table_cost}
use Rattle.ion_symbols.specs.declared.user.StepResult.TheVariants as step
use Rattle.ion_symbols.proofs.Answering.{no_fault, ok-not-err, err-not-ok, same_fault, true-not-false, item-not-end}
use Rattle.ion_symbols.proofs.Sharing.{causes_after, charges_beside}
use Rattle.ion_symbols.proofs.UserTurns.{check_causes, item_comes, item_given, item_refused, level_opens, level_small}
use Rattle.ion_symbols.proofs.user.UserReader.turn.Goals as goal

pub returns-in-Err-check_item-clause-causes : goal.returns-in-Err-check_item-clause-causes
returns-in-Err-check_item-clause-causes g c =
    let refused : c.next.new.meter.refused ≡ c.args.meter.now.refused = (c.in-Ok-true.ensures.causes (c.requires.can_turn.ready.fresh c.requires.can_turn.well)).counted (no_fault Memory) in
    let failures : g.R.RawReader.failures c.next.new.self ≡ g.R.RawReader.failures c.args.self.now.raw = (c.in-Ok-true.ensures.causes (c.requires.can_turn.ready.fresh c.requires.can_turn.well)).steady (no_fault ReadFault) in
    check_causes (checked c.args.self.now.symbols.table false (raw_item c.item-item.result)) c.in-Err-check_item.fault c.args.meter.now c.next.new.meter
    (g.R.RawReader.failures c.args.self.now.raw) (g.R.RawReader.failures c.next.new.self) (g.R.RawReader.exceeds c.args.self.now.raw) c.in-Err-check_item.ensures refused failures

pub returns-in-Err-check_item-2-clause-causes : goal.returns-in-Err-check_item-2-clause-causes
returns-in-Err-check_item-2-clause-causes g c =
    let refused : c.next.new.meter.refused ≡ c.args.meter.now.refused = (c.in-Ok-true.ensures.causes (c.requires.can_turn.ready.fresh c.requires.can_turn.well)).counted (no_fault Memory) in
    let failures : g.R.RawReader.failures c.next.new.self ≡ g.R.RawReader.failures c.args.self.now.raw = (c.in-Ok-true.ensures.causes (c.requires.can_turn.ready.fresh c.requires.can_turn.well)).steady (no_fault ReadFault) in
    check_causes (checked c.args.self.now.symbols.table true (raw_item c.item-item.result)) c.in-Err-check_item-2.fault c.args.meter.now c.next.new.meter
    (g.R.RawReader.failures c.args.self.now.raw) (g.R.RawReader.failures c.next.new.self) (g.R.RawReader.exceeds c.args.self.now.raw) c.in-Err-check_item-2.ensures refused failures

pub returns-clause-gives : goal.returns-clause-gives
returns-clause-gives g c = record {
  gives = λ observable _.
      let t = c.args.self.now.symbols.table in
      let i = g.R.RawReader.current c.next.new.self in
      let same : raw_item c.item-item.result ≡ i = c.item-item.ensures in
      let head = c.head_of-head.ensures ∙ ap (λ j. j.head) same in
      let marker : is_marker i.head ≡ false = sym (ap is_marker head) ∙ (sym c.is_marker.ensures ∙ c.if-is_marker.false) in
      let begins : begins_declaration t c.args.self.now.count i ≡ false = sym (ap (begins_declaration t c.args.self.now.count) same) ∙ (sym c.is_declaration.ensures ∙ c.if-is_declaration.false) in
      let fine = subst (λ j. CheckedAs (checked t true j) (Ok tt)) same c.in_default-check_item.ensures in
      let level = c.level_after-self.ensures ∙ ap (level_after c.args.self.now.count) head in
      item_given c.args.self.now.symbols.catalog c.args.self.now.limits.symbols t c.args.self.now.count i (g.R.RawReader.reading c.args.self.now.raw) (g.R.RawReader.reading c.next.new.self)
      (c.in-Ok-true.ensures.gives observable (ap Ok c.in-Ok-true.field-0-test)) marker begins fine
      ∙ ap (λ n. More (resolve t i) (users c.args.self.now.symbols.catalog c.args.self.now.limits.symbols (record { table = t; mode = plain n }) (g.R.RawReader.reading c.next.new.self))) (sym level);
  ends = λ _ e. absurd (item-not-end e);
  refuses = λ _ reason place e. absurd (ok-not-err step.Item (Refused reason place) e);
}

pub returns-in-Ok-true-read-clause-passes : goal.returns-in-Ok-true-read-clause-passes
returns-in-Ok-true-read-clause-passes g c = grind (arith, common_steps)

pub returns-in-Err-check_item-2-clause-gives : goal.returns-in-Err-check_item-2-clause-gives
returns-in-Err-check_item-2-clause-gives g c = record {
  gives = λ _ e. absurd (err-not-ok c.in-Err-check_item-2.fault step.Item e);
  ends = λ _ e. absurd (err-not-ok c.in-Err-check_item-2.fault step.Ended e);
  refuses = λ observable reason place e.
      let r = g.R.RawReader in
      let u = c.args.self.now in
      let i = r.current c.next.new.self in
      let head = c.head_of-head.ensures ∙ ap (λ j. j.head) c.item-item.ensures in
      let marker : is_marker i.head ≡ false = sym (ap is_marker head) ∙ (sym c.is_marker.ensures ∙ c.if-is_marker.false) in
      let begins : begins_declaration u.symbols.table u.count i ≡ false =
      sym (ap (begins_declaration u.symbols.table u.count) c.item-item.ensures) ∙ (sym c.is_declaration.ensures ∙ c.if-is_declaration.false) in
      item_refused u.symbols.catalog u.limits.symbols u.symbols.table u.count i (raw_item c.item-item.result) (r.reading u.raw) (r.reading c.next.new.self)
      c.in-Err-check_item-2.fault reason place (c.in-Ok-true.ensures.gives observable (ap Ok c.in-Ok-true.field-0-test)) c.item-item.ensures marker begins
      c.in-Err-check_item-2.ensures (same_fault c.in-Err-check_item-2.fault (Refused reason place) e);
}

pub item-item-requires : goal.item-item-requires
item-item-requires g c = grind (arith, common_steps)

pub returns-in-Err-check_item-clause-gives : goal.returns-in-Err-check_item-clause-gives
returns-in-Err-check_item-clause-gives g c = grind (arith, common_steps)

pub read-requires-clause-can_read : goal.read-requires-clause-can_read
read-requires-clause-can_read g c = grind (arith, common_steps)

pub read-requires-clause-level : goal.read-requires-clause-level
read-requires-clause-level g c = grind (arith, common_steps)

pub returns-in-Err-read-clause-gives : goal.returns-in-Err-read-clause-gives
returns-in-Err-read-clause-gives g c = grind (arith, common_steps)

pub returns-in-Ok-true-read-clause-steps : goal.returns-in-Ok-true-read-clause-steps
returns-in-Ok-true-read-clause-steps g c =
    let on = g.met.R.RawReader.read_more c.args.self.now.raw c.next.new.self c.read.new.raw c.next.ensures.read_on c.read.ensures.leaves.read_on in
    grind (arith, common_steps, on)

pub returns-in-Ok-false-read-clause-gives : goal.returns-in-Ok-false-read-clause-gives
returns-in-Ok-false-read-clause-gives g c = grind (arith, common_steps)

pub returns-in-Ok-false-read-clause-falls : goal.returns-in-Ok-false-read-clause-falls
returns-in-Ok-false-read-clause-falls g c = grind (arith, common_steps)

pub returns-in-Ok-false-read-clause-causes : goal.returns-in-Ok-false-read-clause-causes
returns-in-Ok-false-read-clause-causes g c = grind (arith, common_steps)

pub returns-in-Ok-false-read-clause-steps : goal.returns-in-Ok-false-read-clause-steps
returns-in-Ok-false-read-clause-steps g c =
    let on = g.met.R.RawReader.read_more c.args.self.now.raw c.next.new.self c.read.new.raw c.next.ensures.read_on c.read.ensures.leaves.read_on in
    grind (arith, elements, on)

pub returns-in-Err-check_item-2-clause-steps : goal.returns-in-Err-check_item-2-clause-steps
returns-in-Err-check_item-2-clause-steps g c = grind (arith, elements)

pub returns-in-Err-clause-gives : goal.returns-in-Err-clause-gives
returns-in-Err-clause-gives g c = grind (arith, common_steps)

pub returns-in-Err-clause-causes : goal.returns-in-Err-clause-causes
returns-in-Err-clause-causes g c = grind (arith, common_steps)

pub returns-in-Err-clause-steps : goal.returns-in-Err-clause-steps
returns-in-Err-clause-steps g c = grind (arith, common_steps)

pub returns-in-Ok-false-clause-gives : goal.returns-in-Ok-false-clause-gives
returns-in-Ok-false-clause-gives g c = grind (arith, common_steps)

pub returns-in-Ok-false-clause-falls : goal.returns-in-Ok-false-clause-falls
returns-in-Ok-false-clause-falls g c = grind (arith, common_steps)

pub returns-in-Ok-false-clause-causes : goal.returns-in-Ok-false-clause-causes
returns-in-Ok-false-clause-causes g c = grind (arith, common_steps)

pub returns-in-Ok-false-clause-steps : goal.returns-in-Ok-false-clause-steps
returns-in-Ok-false-clause-steps g c = grind (arith, common_steps)

pub returns-then-is_marker-clause-gives : goal.returns-then-is_marker-clause-gives
returns-then-is_marker-clause-gives g c = grind (arith, common_steps)

pub returns-then-is_marker-clause-passes : goal.returns-then-is_marker-clause-passes
returns-then-is_marker-clause-passes g c = grind (arith, common_steps)

pub returns-then-is_marker-clause-falls : goal.returns-then-is_marker-clause-falls
returns-then-is_marker-clause-falls g c = grind (arith, common_steps)

pub returns-then-is_marker-clause-causes : goal.returns-then-is_marker-clause-causes
returns-then-is_marker-clause-causes g c = grind (arith, common_steps)

pub returns-then-is_marker-clause-steps : goal.returns-then-is_marker-clause-steps
returns-then-is_marker-clause-steps g c = grind (arith, common_steps)

pub returns-in-Err-check_item-clause-passes : goal.returns-in-Err-check_item-clause-passes
returns-in-Err-check_item-clause-passes g c = grind (arith, common_steps)

pub returns-in-Err-check_item-clause-steps : goal.returns-in-Err-check_item-clause-steps
returns-in-Err-check_item-clause-steps g c = grind (arith, common_steps)

pub returns-in-Err-read-clause-passes : goal.returns-in-Err-read-clause-passes
returns-in-Err-read-clause-passes g c = grind (arith, common_steps)

pub returns-in-Err-read-clause-causes : goal.returns-in-Err-read-clause-causes
returns-in-Err-read-clause-causes g c =
    let r = g.R.RawReader in
    let u = c.args.self.now in
    let causes = c.in-Ok-true.ensures.causes (c.requires.can_turn.ready.fresh c.requires.can_turn.well) in
    causes_after (Some c.in-Err-read.fault) c.args.meter.now c.next.new.meter c.read.new.meter (r.failures u.raw) (r.failures c.next.new.self) (r.failures c.read.new.raw)
    (r.exceeds u.raw) (r.exceeds c.next.new.self) (causes.counted (no_fault Memory)) (causes.steady (no_fault ReadFault)) c.next.ensures.exceeds.0
    (c.in-Err-read.ensures.causes c.in-Ok-true.ensures.failed)

pub returns-in-Err-read-clause-steps : goal.returns-in-Err-read-clause-steps
returns-in-Err-read-clause-steps g c =
    let on = g.met.R.RawReader.read_more c.args.self.now.raw c.next.new.self c.read.new.raw c.next.ensures.read_on c.read.ensures.leaves.read_on in
    grind (arith, common_steps, on)

pub returns-in-Ok-true-read-clause-gives : goal.returns-in-Ok-true-read-clause-gives
returns-in-Ok-true-read-clause-gives g c = grind (arith, common_steps)

pub returns-in-Ok-true-read-clause-falls : goal.returns-in-Ok-true-read-clause-falls
returns-in-Ok-true-read-clause-falls g c = grind (arith, common_steps)

pub returns-in-Ok-true-read-clause-causes : goal.returns-in-Ok-true-read-clause-causes
returns-in-Ok-true-read-clause-causes g c = grind (arith, common_steps)

pub returns-in-Ok-false-read-clause-passes : goal.returns-in-Ok-false-read-clause-passes
returns-in-Ok-false-read-clause-passes g c = grind (arith, common_steps)

pub returns-in-Err-check_item-2-clause-passes : goal.returns-in-Err-check_item-2-clause-passes
returns-in-Err-check_item-2-clause-passes g c = grind (arith, common_steps)

pub level_after-self-requires : goal.level_after-self-requires
level_after-self-requires g c =
    let r = g.R.RawReader in
    let u = c.args.self.now in
    let ok : c.next.result ≡ Ok true = c.in-Ok-true.is ∙ ap Ok c.in-Ok-true.field-0-test in
    let more : r.ended u.raw → ⊥ = λ e. true-not-false (sym ok ∙ (c.next.ensures.stays e).0) in
    let w = g.met.R.RawReader.within u.raw c.requires.can_turn.ready.raw in
    level_small u.count (length (r.opened u.raw)) (r.depth u.raw) (c.requires.can_turn.ready.level c.requires.can_turn.well more) w.level w.deep

pub returns-clause-passes : goal.returns-clause-passes
returns-clause-passes g c = grind (arith, common_steps)

pub returns-clause-falls : goal.returns-clause-falls
returns-clause-falls g c = grind (arith, common_steps)

pub returns-clause-causes : goal.returns-clause-causes
returns-clause-causes g c = grind (arith, common_steps)

pub returns-clause-steps : goal.returns-clause-steps
returns-clause-steps g c =
    let r = g.R.RawReader in
    let u = c.args.self.now in
    let i = r.current c.next.new.self in
    let ready = c.requires.can_turn.ready in
    let ok : c.next.result ≡ Ok true = c.in-Ok-true.is ∙ ap Ok c.in-Ok-true.field-0-test in
    let more : r.ended u.raw → ⊥ = λ e. true-not-false (sym ok ∙ (c.next.ensures.stays e).0) in
    let head = c.head_of-head.ensures ∙ ap (λ j. j.head) c.item-item.ensures in
    let marker : is_marker i.head ≡ false = sym (ap is_marker head) ∙ (sym c.is_marker.ensures ∙ c.if-is_marker.false) in
    record {
      ready = record {
        raw = c.next.ensures.sound;
        checked = ready.checked;
        cheap = ready.cheap;
        level = λ _ _. level_opens c.level_after-self.result u.count (r.opened u.raw) (r.opened c.next.new.self) i.head
            (ready.level c.requires.can_turn.well more) (c.level_after-self.ensures ∙ ap (level_after u.count) head) (c.next.ensures.opens ok);
        fresh = λ _. c.in-Ok-true.ensures.failed;
      };
      sound = c.next.ensures.sound;
      cheap = ready.cheap;
      lends = λ _. c.next.ensures.lends ok;
      level = λ _. level_opens c.level_after-self.result u.count (r.opened u.raw) (r.opened c.next.new.self) i.head
          (ready.level c.requires.can_turn.well more) (c.level_after-self.ensures ∙ ap (level_after u.count) head) (c.next.ensures.opens ok);
      comes = λ _. item_comes u.symbols.table (r.depth u.raw) (r.opened u.raw) (r.opened c.next.new.self) i (c.next.ensures.fits ok) marker (c.next.ensures.opens ok);
      ended = λ e. absurd (item-not-end e);
      stays = λ e. absurd (more e);
      observable = c.next.ensures.observable;
      read_on = c.next.ensures.read_on;
      exceeds = c.next.ensures.exceeds;
      bytes_left = c.next.ensures.bytes_left;
      depth = c.next.ensures.depth;
      most = c.next.ensures.most;
      failed = refl;
      limits = refl;
      catalog = refl;
      charges = charges_beside c.args.meter.now c.next.new.meter (r.own u.raw) (r.own c.next.new.self) (table_cost u.symbols.table) (r.most u.raw) u.limits.symbols
          ready.cheap c.requires.can_turn.held c.next.ensures.charges;
    }

pub returns-in-Err-clause-passes : goal.returns-in-Err-clause-passes
returns-in-Err-clause-passes g c = grind (arith, common_steps)

pub returns-in-Ok-false-clause-passes : goal.returns-in-Ok-false-clause-passes
returns-in-Ok-false-clause-passes g c = grind (arith, common_steps)

pub reset-requires : goal.reset-requires
reset-requires g c = grind (arith, common_steps)

pub returns-in-Err-read-clause-falls : goal.returns-in-Err-read-clause-falls
returns-in-Err-read-clause-falls g c = grind (arith, common_steps)
