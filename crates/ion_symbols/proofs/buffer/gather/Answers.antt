use Rattle.std.proofs.Common.{rules, refl, le_trans, subst, ◌∙◌, ◌≡◌, ◌≤◌, None, Ok, true, false, arith, ap, ◌+◌, ◌-◌, ◌^◌, ◌<◌, sym}
use Rattle.std.proofs.lemmas.Grind.{common_steps}
use Rattle.ion_value.specs.Items.{raw_item}
use Rattle.ion_value.specs.Reading.{More}
use Rattle.ion_value.specs.Shares.{ReadCauses, fault_of}
use Rattle.ion_value.specs.Standing.{open_after}
use Rattle.ion_symbols.specs.Table.{text_at}
use Rattle.ion_symbols.specs.Declaration.{Ground, next, item_view, turn, on, made}
use Rattle.ion_symbols.specs.Users.{checked, declaring, users}
use Rattle.ion_symbols.specs.Buffer.{declaring_of, depth_of, own_of, pending_of}
use Rattle.ion_meter.specs.declared.fault.Fault.TheVariants.{Memory, ReadFault, Refused}
use Rattle.ion_symbols.proofs.Answering.{no_fault, ok-not-err, err-not-ok, same_fault, true-not-false}
use Rattle.ion_symbols.proofs.Sharing.{falls_within, pending_within, causes_after, charges_both, falls_below, no_causes, room_then, turn_causes}
use Rattle.ion_symbols.proofs.Turns.{level-on, level-made, goes_on, goes_out, turn_refused, not_failed, stopped, check_causes, check_refused}
use Rattle.ion_symbols.proofs.buffer.gather.Goals as goal

-- the item ends the declaration
pub returns-in-Ok-true-clause-gives : goal.returns-in-Ok-true-clause-gives
returns-in-Ok-true-clause-gives g c = record {
  gives = λ t o.
      let r = g.R.RawReader in
      let s = c.args.symbols.now in
      let d = declaring_of s.catalog c.items.buffer in
      let u = next s.table (pending_of s.catalog c.take.new.self) in
      let item = raw_item c.item-item.result in
      let ok : c.next.result ≡ Ok true = c.in_ok-next.was ∙ ap Ok c.if-branch.true in
      let more : r.reading c.items.raw ≡ More (r.current c.next.new.self) (r.reading c.next.new.self) = c.next.ensures.gives (c.items.invariant.observable.0 t) ok in
      let turns : turn (record { catalog = s.catalog; limit = c.args.limit; old = s.table }) d (item_view (text_at s.table) item) ≡ made u =
      rw c.in-Ok-true.field-0-test at c.in-Ok-true.ensures.turn in
      let first = users s.catalog c.args.limit (record { table = s.table; mode = declaring (declaring_of s.catalog c.args.buffer.now) }) (r.reading c.args.raw.now) in
      goes_out s.catalog c.args.limit s.table d u (r.current c.next.new.self) item first (r.reading c.items.raw) (r.reading c.next.new.self) c.check_item.result
      (c.items.invariant.coming t) more c.item-item.ensures c.check_item.ensures c.in_default.is turns;
  ends = λ t e. absurd (true-not-false e);
  refuses = λ t well reason place e. absurd (ok-not-err true (Refused reason place) e);
}

pub returns-in-Ok-true-clause-gathered : goal.returns-in-Ok-true-clause-gathered
returns-in-Ok-true-clause-gathered g c = record {
  pending = c.in-Ok-true.ensures.pending;
  nameless = λ e. c.take.ensures.nameless (c.in-Ok-true.is ∙ ap Ok c.in-Ok-true.field-0-test);
  counted =
      let r = g.R.RawReader in
      let ok : c.next.result ≡ Ok true = c.in_ok-next.was ∙ ap Ok c.if-branch.true in
      let none : fault_of c.next.result ≡ None = rw ok refl in
      let well : r.failed c.items.raw ≡ None = not_failed (r.failed c.items.raw) c.next.result (λ f e. (c.next.ensures.again f e).0) true ok in
      let causes : ReadCauses None c.items.meter c.next.new.meter (r.failures c.items.raw) (r.failures c.next.new.self) (r.exceeds c.items.raw) =
      rw none at (c.next.ensures.causes well) in
      c.in-Ok-true.ensures.takes.causes.counted (no_fault Memory) ∙ (causes.counted (no_fault Memory) ∙ c.items.invariant.refused);
  level = λ o.
      let r = g.R.RawReader in
      let s = c.args.symbols.now in
      let ground : Ground = record { catalog = s.catalog; limit = c.args.limit; old = s.table } in
      let d = declaring_of s.catalog c.items.buffer in
      let u = next s.table (pending_of s.catalog c.take.new.self) in
      let item = raw_item c.item-item.result in
      let ok : c.next.result ≡ Ok true = c.in_ok-next.was ∙ ap Ok c.if-branch.true in
      let opens : r.opened c.next.new.self ≡ open_after (r.opened c.items.raw) (r.current c.next.new.self).head = c.next.ensures.opens ok in
      let turns : turn ground d (item_view (text_at s.table) item) ≡ made u = rw c.in-Ok-true.field-0-test at c.in-Ok-true.ensures.turn in
      level-made (text_at s.table) ground d u (r.current c.next.new.self) item (r.opened c.items.raw) (r.opened c.next.new.self)
      c.items.invariant.level opens c.item-item.ensures turns;
}

-- the item is refused
pub returns-in-Err-take-clause-gives : goal.returns-in-Err-take-clause-gives
returns-in-Err-take-clause-gives g c = record {
  gives = λ t e. absurd (err-not-ok c.in-Err-take.fault true e);
  ends = λ t e. absurd (err-not-ok c.in-Err-take.fault false e);
  refuses = λ t well reason place o.
      let r = g.R.RawReader in
      let s = c.args.symbols.now in
      let d = declaring_of s.catalog c.items.buffer in
      let item = raw_item c.item-item.result in
      let ok : c.next.result ≡ Ok true = c.in_ok-next.was ∙ ap Ok c.if-branch.true in
      let more : r.reading c.items.raw ≡ More (r.current c.next.new.self) (r.reading c.next.new.self) = c.next.ensures.gives (c.items.invariant.observable.0 t) ok in
      let e = declaring_of s.catalog c.take.new.self in
      let u = next s.table (pending_of s.catalog c.take.new.self) in
      let turns = stopped _ c.in-Err-take.fault e u reason place c.in-Err-take.ensures.turn (same_fault c.in-Err-take.fault (Refused reason place) o) in
      let first = users s.catalog c.args.limit (record { table = s.table; mode = declaring (declaring_of s.catalog c.args.buffer.now) }) (r.reading c.args.raw.now) in
      turn_refused s.catalog c.args.limit s.table d (r.current c.next.new.self) item first (r.reading c.items.raw) (r.reading c.next.new.self)
      c.check_item.result reason place (c.items.invariant.coming t) more c.item-item.ensures c.check_item.ensures c.in_default.is turns;
}

-- a symbol is refused
pub returns-in-Err-clause-causes : goal.returns-in-Err-clause-causes
returns-in-Err-clause-causes g c = λ well.
    let r = g.R.RawReader in
    let s = c.args.symbols.now in
    let ok : c.next.result ≡ Ok true = c.in_ok-next.was ∙ ap Ok c.if-branch.true in
    let none : fault_of c.next.result ≡ None = rw ok refl in
    let fresh : r.failed c.items.raw ≡ None = c.items.invariant.fresh well in
    let causes : ReadCauses None c.items.meter c.next.new.meter (r.failures c.items.raw) (r.failures c.next.new.self) (r.exceeds c.items.raw) =
    rw none at (c.next.ensures.causes fresh) in
    let same : ReadCauses None c.args.meter.now c.next.new.meter (r.failures c.args.raw.now) (r.failures c.next.new.self) (r.exceeds c.args.raw.now) =
    causes_after None c.args.meter.now c.items.meter c.next.new.meter (r.failures c.args.raw.now) (r.failures c.items.raw) (r.failures c.next.new.self)
    (r.exceeds c.args.raw.now) (r.exceeds c.items.raw) c.items.invariant.refused c.items.invariant.failures c.items.invariant.exceeds.1 causes in
    check_causes (checked s.table false (raw_item c.item-item.result)) c.in-Err.fault _ _ _ _ _ c.in-Err.ensures same

-- the declaration goes on
pub items-preserved : goal.items-preserved
items-preserved g c =
    let r = g.R.RawReader in
    let s = c.args.symbols.now in
    let i = c.items.invariant in
    let ground : Ground = record { catalog = s.catalog; limit = c.args.limit; old = s.table } in
    let d = declaring_of s.catalog c.items.buffer in
    let e = declaring_of s.catalog c.take.new.self in
    let item = raw_item c.item-item.result in
    let ok : c.next.result ≡ Ok true = c.in_ok-next.was ∙ ap Ok c.if-branch.true in
    let opens : r.opened c.next.new.self ≡ open_after (r.opened c.items.raw) (r.current c.next.new.self).head = c.next.ensures.opens ok in
    let turns : turn ground d (item_view (text_at s.table) item) ≡ on e = rw c.in-Ok-false.field-0-test at c.in-Ok-false.ensures.turn in
    let none : fault_of c.next.result ≡ None = rw ok refl in
    let well : r.failed c.items.raw ≡ None = not_failed (r.failed c.items.raw) c.next.result (λ f e. (c.next.ensures.again f e).0) true ok in
    let causes : ReadCauses None c.items.meter c.next.new.meter (r.failures c.items.raw) (r.failures c.next.new.self) (r.exceeds c.items.raw) =
    rw none at (c.next.ensures.causes well) in
    record {
      sound = c.next.ensures.sound;
      pending = c.in-Ok-false.ensures.pending;
      level = level-on (text_at s.table) ground d e (r.current c.next.new.self) item (r.opened c.items.raw) (r.opened c.next.new.self)
          c.items.invariant.level opens c.item-item.ensures turns;
      fresh = λ o. c.next.ensures.failed ∙ none;
      observable = (λ o. c.next.ensures.observable.1 (i.observable.0 o), λ o. i.observable.1 (c.next.ensures.observable.0 o));
      read_on = g.met.R.RawReader.read_more c.args.raw.now c.items.raw c.next.new.self i.read_on c.next.ensures.read_on;
      coming = λ t.
          let more : r.reading c.items.raw ≡ More (r.current c.next.new.self) (r.reading c.next.new.self) = c.next.ensures.gives (i.observable.0 t) ok in
          goes_on s.catalog c.args.limit s.table d e (r.current c.next.new.self) item _ (r.reading c.items.raw) (r.reading c.next.new.self) c.check_item.result
          (c.items.invariant.coming t) more c.item-item.ensures c.check_item.ensures c.in_default.is turns;
      left = falls_within (r.left c.next.new.self) (r.left c.items.raw) (r.left c.args.raw.now) (c.next.ensures.falls ok) i.left;
      refused = c.in-Ok-false.ensures.takes.causes.counted (no_fault Memory) ∙ (causes.counted (no_fault Memory) ∙ i.refused);
      failures = causes.steady (no_fault ReadFault) ∙ i.failures;
      exceeds = (λ o. c.next.ensures.exceeds.1 (i.exceeds.0 o), λ o. i.exceeds.1 (c.next.ensures.exceeds.0 o));
      bytes_left = λ b. i.bytes_left (c.next.ensures.bytes_left b);
      depth = c.next.ensures.depth ∙ i.depth;
      most = c.next.ensures.most ∙ i.most;
      charges = charges_both c.args.meter.now c.items.meter c.next.new.meter c.take.new.meter (r.own c.args.raw.now + own_of c.args.buffer.now)
          (r.own c.items.raw) (r.own c.next.new.self) (own_of c.items.buffer) (own_of c.take.new.self)
          (r.most c.args.raw.now) (r.most c.items.raw) c.args.limit c.requires.can_gather.held (pending_within c.args.limit s.table c.items.buffer i.pending) i.most
          i.charges c.next.ensures.charges c.in-Ok-false.ensures.takes.charges;
    }

pub take-requires-clause-inside : goal.take-requires-clause-inside
take-requires-clause-inside g c =
    let w = g.met.R.RawReader.within c.items.raw c.items.invariant.sound in
    let few : depth_of (declaring_of c.args.symbols.now.catalog c.items.buffer) ≤ 65535 = subst (λ n. n ≤ 65535) c.items.invariant.level (le_trans w.level w.deep) in
    omega (arith, few)

pub items-init : goal.items-init
items-init g c = grind (arith, common_steps, g.met.R.RawReader.not_read c.args.raw.now)

pub next-requires-clause-room : goal.next-requires-clause-room
next-requires-clause-room g c = search rules

pub returns-in_err-next-clause-gives : goal.returns-in_err-next-clause-gives
returns-in_err-next-clause-gives g c = grind (arith, common_steps)

pub returns-in_err-next-clause-gathered : goal.returns-in_err-next-clause-gathered
returns-in_err-next-clause-gathered g c = grind (arith, common_steps)

pub returns-in_err-next-clause-leaves : goal.returns-in_err-next-clause-leaves
returns-in_err-next-clause-leaves g c =
    let on = g.met.R.RawReader.read_more c.args.raw.now c.items.raw c.next.new.self c.items.invariant.read_on c.next.ensures.read_on in
    grind (arith, common_steps, on)

pub returns-in_err-next-clause-causes : goal.returns-in_err-next-clause-causes
returns-in_err-next-clause-causes g c = grind (arith, common_steps)

pub returns-in_err-next-clause-charges : goal.returns-in_err-next-clause-charges
returns-in_err-next-clause-charges g c = grind (arith, common_steps)

pub item-item-requires : goal.item-item-requires
item-item-requires g c = grind (arith, common_steps)

pub returns-in-Err-clause-gives : goal.returns-in-Err-clause-gives
returns-in-Err-clause-gives g c = record {
  gives = λ t e. absurd (err-not-ok c.in-Err.fault true e);
  ends = λ t e. absurd (err-not-ok c.in-Err.fault false e);
  refuses = λ t well reason place o.
      let r = g.R.RawReader in
      let s = c.args.symbols.now in
      let ok : c.next.result ≡ Ok true = c.in_ok-next.was ∙ ap Ok c.if-branch.true in
      let first = users s.catalog c.args.limit (record { table = s.table; mode = declaring (declaring_of s.catalog c.args.buffer.now) }) (r.reading c.args.raw.now) in
      check_refused s.catalog c.args.limit s.table (declaring_of s.catalog c.items.buffer) (r.current c.next.new.self) (raw_item c.item-item.result)
      first (r.reading c.items.raw) (r.reading c.next.new.self) c.in-Err.fault reason place (c.items.invariant.coming t)
      (c.next.ensures.gives (c.items.invariant.observable.0 t) ok) c.item-item.ensures c.in-Err.ensures (same_fault c.in-Err.fault (Refused reason place) o);
}

pub returns-in-Err-clause-leaves : goal.returns-in-Err-clause-leaves
returns-in-Err-clause-leaves g c =
    let on = g.met.R.RawReader.read_more c.args.raw.now c.items.raw c.next.new.self c.items.invariant.read_on c.next.ensures.read_on in
    grind (arith, common_steps, on)

pub returns-in-Err-clause-charges : goal.returns-in-Err-clause-charges
returns-in-Err-clause-charges g c = grind (arith, common_steps)

pub take-requires-clause-can_take : goal.take-requires-clause-can_take
take-requires-clause-can_take g c =
    let r = g.R.RawReader in
    let i = c.items.invariant in
    let ok : c.next.result ≡ Ok true = c.in_ok-next.was ∙ ap Ok c.if-branch.true in
    let well : r.failed c.items.raw ≡ None = not_failed (r.failed c.items.raw) c.next.result (λ f e. (c.next.ensures.again f e).0) true ok in
    let causes = c.in_ok-next.ensures.causes well in
    let can = c.requires.can_gather in
    let w = g.met.R.RawReader.within c.items.raw i.sound in
    let room = room_then c.args.meter.now c.items.meter c.next.new.meter (r.own c.args.raw.now + own_of c.args.buffer.now) (r.own c.items.raw) (r.own c.next.new.self)
    (own_of c.items.buffer) (r.most c.args.raw.now + c.args.limit) (r.most c.items.raw) c.args.limit
    can.room can.held (pending_within c.args.limit c.args.symbols.now.table c.items.buffer i.pending) can.small w.small i.charges c.next.ensures.charges in
    record {
      room = room.0;
      held = room.1;
      countable = subst (λ n. n < 2 ^ 64 - 1) (sym (causes.counted (no_fault Memory) ∙ i.refused)) can.countable;
      small = can.small;
      pending = i.pending;
    }

pub returns-in-Ok-true-clause-leaves : goal.returns-in-Ok-true-clause-leaves
returns-in-Ok-true-clause-leaves g c =
    let r = g.R.RawReader in
    let i = c.items.invariant in
    let ok : c.next.result ≡ Ok true = c.in_ok-next.was ∙ ap Ok c.if-branch.true in
    record {
      sound = c.next.ensures.sound;
      observable = (λ o. i.observable.1 (c.next.ensures.observable.0 o), λ o. c.next.ensures.observable.1 (i.observable.0 o));
      read_on = g.met.R.RawReader.read_more c.args.raw.now c.items.raw c.next.new.self i.read_on c.next.ensures.read_on;
      exceeds = (λ o. i.exceeds.1 (c.next.ensures.exceeds.0 o), λ o. c.next.ensures.exceeds.1 (i.exceeds.0 o));
      bytes_left = λ b. i.bytes_left (c.next.ensures.bytes_left b);
      depth = c.next.ensures.depth ∙ i.depth;
      most = c.next.ensures.most ∙ i.most;
      ended = λ e. absurd (true-not-false e);
      fresh = c.in_ok-next.ensures.failed;
      falls = λ _. falls_below (r.left c.next.new.self) (r.left c.items.raw) (r.left c.args.raw.now) (c.next.ensures.falls ok) i.left;
    }

pub returns-in-Ok-true-clause-causes : goal.returns-in-Ok-true-clause-causes
returns-in-Ok-true-clause-causes g c =
    let r = g.R.RawReader in
    let i = c.items.invariant in
    let ok : c.next.result ≡ Ok true = c.in_ok-next.was ∙ ap Ok c.if-branch.true in
    let well : r.failed c.items.raw ≡ None = not_failed (r.failed c.items.raw) c.next.result (λ f e. (c.next.ensures.again f e).0) true ok in
    let causes = c.in_ok-next.ensures.causes well in
    λ _.
    no_causes c.args.meter.now c.take.new.meter (r.failures c.args.raw.now) (r.failures c.next.new.self) (r.exceeds c.args.raw.now)
    (c.in-Ok-true.ensures.takes.causes.counted (no_fault Memory) ∙ (causes.counted (no_fault Memory) ∙ i.refused)) (causes.steady (no_fault ReadFault) ∙ i.failures)

pub returns-in-Ok-true-clause-charges : goal.returns-in-Ok-true-clause-charges
returns-in-Ok-true-clause-charges g c = grind (arith, common_steps)

pub items-smaller : goal.items-smaller
items-smaller g c = grind (arith, common_steps)

pub returns-in-Err-take-clause-leaves : goal.returns-in-Err-take-clause-leaves
returns-in-Err-take-clause-leaves g c =
    let r = g.R.RawReader in
    let i = c.items.invariant in
    record {
      sound = c.next.ensures.sound;
      observable = (λ o. i.observable.1 (c.next.ensures.observable.0 o), λ o. c.next.ensures.observable.1 (i.observable.0 o));
      read_on = g.met.R.RawReader.read_more c.args.raw.now c.items.raw c.next.new.self i.read_on c.next.ensures.read_on;
      exceeds = (λ o. i.exceeds.1 (c.next.ensures.exceeds.0 o), λ o. c.next.ensures.exceeds.1 (i.exceeds.0 o));
      bytes_left = λ b. i.bytes_left (c.next.ensures.bytes_left b);
      depth = c.next.ensures.depth ∙ i.depth;
      most = c.next.ensures.most ∙ i.most;
      ended = λ e. absurd (err-not-ok c.in-Err-take.fault false e);
      fresh = tt;
      falls = λ e. absurd (err-not-ok c.in-Err-take.fault true e);
    }

pub returns-in-Err-take-clause-causes : goal.returns-in-Err-take-clause-causes
returns-in-Err-take-clause-causes g c =
    let r = g.R.RawReader in
    let i = c.items.invariant in
    let ok : c.next.result ≡ Ok true = c.in_ok-next.was ∙ ap Ok c.if-branch.true in
    let well : r.failed c.items.raw ≡ None = not_failed (r.failed c.items.raw) c.next.result (λ f e. (c.next.ensures.again f e).0) true ok in
    let causes = c.in_ok-next.ensures.causes well in
    let s = c.args.symbols.now in
    λ _.
    turn_causes _ c.in-Err-take.fault (declaring_of s.catalog c.take.new.self) (next s.table (pending_of s.catalog c.take.new.self))
    c.args.meter.now c.next.new.meter c.take.new.meter (r.failures c.args.raw.now) (r.failures c.next.new.self) (r.exceeds c.args.raw.now)
    c.in-Err-take.ensures.turn (causes.counted (no_fault Memory) ∙ i.refused) (causes.steady (no_fault ReadFault) ∙ i.failures) c.in-Err-take.ensures.takes.causes

pub returns-in-Err-take-clause-charges : goal.returns-in-Err-take-clause-charges
returns-in-Err-take-clause-charges g c = grind (arith, common_steps)

pub returns-clause-gives : goal.returns-clause-gives
returns-clause-gives g c = grind (arith, common_steps)

pub returns-clause-gathered : goal.returns-clause-gathered
returns-clause-gathered g c = grind (arith, common_steps)

pub returns-clause-leaves : goal.returns-clause-leaves
returns-clause-leaves g c =
    let on = g.met.R.RawReader.read_more c.args.raw.now c.items.raw c.next.new.self c.items.invariant.read_on c.next.ensures.read_on in
    grind (arith, common_steps, on)

pub returns-clause-causes : goal.returns-clause-causes
returns-clause-causes g c = grind (arith, common_steps)

pub returns-clause-charges : goal.returns-clause-charges
returns-clause-charges g c = grind (arith, common_steps)

pub returns-in-Err-take-clause-gathered : goal.returns-in-Err-take-clause-gathered
returns-in-Err-take-clause-gathered g c = grind (arith, common_steps)

pub returns-in-Err-clause-gathered : goal.returns-in-Err-clause-gathered
returns-in-Err-clause-gathered g c = grind (arith, common_steps)

pub take-requires-clause-kept : goal.take-requires-clause-kept
take-requires-clause-kept g c = grind (arith, common_steps)
