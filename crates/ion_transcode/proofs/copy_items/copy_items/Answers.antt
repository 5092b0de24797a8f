use Rattle.std.proofs.Common.{rules, ◌≡◌, ℕ, ◌+◌, ◌<◌, ◌≤◌, [], ◌∷◌, ◌++◌, length, Some, None, Ok, Err, true, refl, ap, sym, subst, ◌∙◌, add-zero, le_trans, arith}
use Rattle.std.proofs.lemmas.Grind.{common_steps}
use Rattle.ion_meter.specs.Windows.{so_far, HasPrefix}
use Rattle.ion_value.specs.Items.{item_of, raw_head}
use Rattle.ion_value.specs.Value.{PlacedItem}
use Rattle.ion_value.specs.Reading.{More}
use Rattle.ion_value.specs.Shares.{Charges}
use Rattle.ion_value.specs.Standing.{Continues, open_after}
use Rattle.ion_value.specs.Outcome.{one_if_closed, Accepted, verdict_after, output_after}
use Rattle.ion_symbols.specs.Table.{text_at}
use Rattle.ion_symbols.specs.User.{coming_to, lent_by, owned_by, share_of}
use Rattle.ion_value.proofs.Outcomes.{Walk, open_after_all-append, walk-more, walk-prefix, walk-fault, walk-refused, prefix-then, prefix-after, output_after-prefix}
use Rattle.ion_meter.specs.declared.limits.Limits.{Limits}
use Rattle.ion_value.proofs.Handing.{feeds-under}
use Rattle.ion_transcode.proofs.Following.{followed-more, followed-all}
use Rattle.ion_transcode.proofs.Feeding.{charges_fed, followed-feeds, unharmed_fed, walk-same}
use Rattle.ion_transcode.proofs.HandingOn.{left_moved, room_put, walk-moved}
use Rattle.ion_transcode.proofs.Copying.{none_is, err_is, same_ok, ok_is, refused_as, not_refused, Unharmed, continues_with, taken_as, level_with, left_with, same_share, charges_read, charges_written, item_causes, flush_causes, whole_causes, read_causes, unharmed_read, unharmed_put}
use Rattle.ion_transcode.proofs.copy_items.copy_items.Given.{Over}
use Rattle.ion_transcode.proofs.copy_items.copy_items.Goals.{In_default}
use Rattle.ion_transcode.proofs.copy_items.copy_items.Goals as goal

pub returns-in_err-begin-clause-puts : goal.returns-in_err-begin-clause-puts
returns-in_err-begin-clause-puts g c r o =
    let w = g.W.ValueWriter in
    let limits = w.limits c.args.writer.now in
    let before = so_far g.O.Output.written c.args.sink.now in
    record {
      accepted = search rules;
      rejected = search rules;
      prefix = prefix-then _ (before ++ w.puts limits []) _
          (prefix-after before _ _ (output_after-prefix (w.puts limits) (w.adds limits) (w.refusal limits) (g.met.W.ValueWriter.grows limits) [] (coming_to g.R.RawReader.reading c.args.reader.now)))
          ((c.begin.ensures.part c.requires.writer.well).prefix o);
    }

pub returns-in_err-begin-clause-causes : goal.returns-in_err-begin-clause-causes
returns-in_err-begin-clause-causes g c = grind arith

pub returns-in_err-next-clause-says : goal.returns-in_err-next-clause-says
returns-in_err-next-clause-says g c = λ o.
    let t = c.items.invariant.walk in
    let given : c.from_residual-in_err-next.result ≡ Err c.in_err-next.field-0.0 = search rules in
    rw given (record {
      accepted = λ n e. absurd (err_is e);
      rejected = λ reason place e. t.verdict o ∙ ap (verdict_after (g.W.ValueWriter.refusal (g.W.ValueWriter.limits c.args.writer.now)) t.path)
          (c.next.ensures.refuses (c.items.invariant.read.1 o) c.items.invariant.well reason place (refused_as c.in_err-next.was e));
    })

pub returns-in_err-next-clause-puts : goal.returns-in_err-next-clause-puts
returns-in_err-next-clause-puts g c r o =
    let w = g.W.ValueWriter in
    let limits = w.limits c.args.writer.now in
    let before = so_far g.O.Output.written c.args.sink.now in
    let i = c.items.invariant in
    let t = i.walk in
    let given : c.from_residual-in_err-next.result ≡ Err c.in_err-next.field-0.0 = search rules in
    rw given (record {
      accepted = tt;
      rejected = λ reason place e.
          let stops = c.next.ensures.refuses (i.read.1 r) i.well reason place (refused_as c.in_err-next.was e) in
          t.put o ∙ ap (λ l. before ++ l) (sym (t.output r ∙ ap (output_after (w.puts limits) (w.refusal limits) t.path) stops));
      prefix = walk-prefix t (w.adds limits) (g.met.W.ValueWriter.grows limits) _ r o (i.prefix o);
    })

pub returns-in_err-next-clause-causes : goal.returns-in_err-next-clause-causes
returns-in_err-next-clause-causes g c =
    let i = c.items.invariant in
    let so_good : Unharmed c.args.meter.now c.items.meter (g.R.RawReader.failures c.args.reader.now.raw) (g.R.RawReader.failures c.items.reader.raw) g.O.Output c.args.sink.now.device c.items.sink.device =
    record { refused = i.refused; reads = i.failures; writes = i.device; observable = i.written; grown = i.grown } in
    let given : c.from_residual-in_err-next.result ≡ Err c.in_err-next.field-0.0 = search rules in
    rw given (read_causes so_good (c.in_err-next.ensures.causes i.well) i.exceeds.0)

pub returns-in_err-next-clause-input : goal.returns-in_err-next-clause-input
returns-in_err-next-clause-input g c =
    let i = c.items.invariant in
    (λ o. i.read.0 (c.next.ensures.observable.0 o), λ o. c.next.ensures.observable.1 (i.read.1 o))

pub returns-in_err-next-clause-taken : goal.returns-in_err-next-clause-taken
returns-in_err-next-clause-taken g c =
    g.met.R.RawReader.read_more c.args.reader.now.raw c.items.reader.raw c.next.new.self.raw c.items.invariant.taken c.next.ensures.read_on

pub returns-in_err-next-clause-joined : goal.returns-in_err-next-clause-joined
returns-in_err-next-clause-joined g c =
    let i = c.items.invariant in
    record {
      ready = c.next.ensures.ready;
      limits = c.next.ensures.same.0 ∙ i.same;
      reader_most = c.next.ensures.kept.1 ∙ i.most;
      stays = record { sound = i.writer; limits = i.limits; most = i.writer_most };
      well = record { accepted = search rules; rejected = λ reason place e. i.sink };
    }

pub returns-in_err-next-clause-charges : goal.returns-in_err-next-clause-charges
returns-in_err-next-clause-charges g c =
    let w = g.W.ValueWriter in
    let r = g.R.RawReader in
    let i = c.items.invariant in
    let share = same_share _ _ _ _ i.most i.same in
    let few = subst (λ n. w.own c.items.writer ≤ n) i.writer_most (g.met.W.ValueWriter.within c.items.writer i.writer).share in
    charges_read (owned_by r.own c.args.reader.now) (w.own c.args.writer.now) (owned_by r.own c.items.reader) (w.own c.items.writer) (owned_by r.own c.next.new.self) (share_of r.most c.args.reader.now) (w.most c.args.writer.now)
    i.charges c.next.ensures.charges share c.requires.room.held few

pub item-item-requires : goal.item-item-requires
item-item-requires g c = c.next.ensures.lends (c.in_ok-next.was ∙ ap Ok c.if-branch.true)

pub item-requires-clause-countable : goal.item-requires-clause-countable
item-requires-clause-countable g c =
    let i = c.items.invariant in
    subst (λ n. n < 18446744073709551615) (sym ((c.in_ok-next.ensures.causes i.well).counted none_is ∙ i.refused)) c.requires.room.countable

pub item-requires-clause-path : goal.item-requires-clause-path
item-requires-clause-path g c = λ _.
    let i = c.items.invariant in
    let walk = i.walk in (
      walk.path,
      walk.stands_at,
      continues_with i.limits c.requires.writer.depth_of i.depth walk.kinds_at c.item-item.ensures (c.next.ensures.comes (c.in_ok-next.was ∙ ap Ok c.if-branch.true)),
    )

pub returns-in-Err-clause-says : goal.returns-in-Err-clause-says
returns-in-Err-clause-says g c r =
    let w = g.W.ValueWriter in
    let i = c.items.invariant in
    let walk = i.walk in
    let item = lent_by g.R.RawReader.current c.next.new.self in
    let taken : c.next.result ≡ Ok true = c.in_ok-next.was ∙ ap Ok c.if-branch.true in
    let may : Continues (w.limits c.items.writer) walk.path (item_of (λ s. text_at s.table) c.item-item.result) =
    continues_with i.limits c.requires.writer.depth_of i.depth walk.kinds_at c.item-item.ensures (c.next.ensures.comes taken) in
    record {
      accepted = λ n e. absurd (err_is e);
      rejected = λ reason place e.
          let why = c.item.ensures.refuses i.fresh i.sink walk.path walk.stands_at may reason place (refused_as c.in-Err.is e) in
          (walk-refused walk item _ reason place r (c.next.ensures.gives (i.read.1 r) taken)
          (taken_as (λ l x. w.refusal l walk.path x ≡ Some (reason, place)) i.limits c.item-item.ensures why)).0;
    }

pub returns-in-Err-clause-puts : goal.returns-in-Err-clause-puts
returns-in-Err-clause-puts g c r o =
    let w = g.W.ValueWriter in
    let written = g.O.Output.written in
    let limits = w.limits c.args.writer.now in
    let i = c.items.invariant in
    let walk = i.walk in
    let item = lent_by g.R.RawReader.current c.next.new.self in
    let taken : c.next.result ≡ Ok true = c.in_ok-next.was ∙ ap Ok c.if-branch.true in
    let may : Continues (w.limits c.items.writer) walk.path (item_of (λ s. text_at s.table) c.item-item.result) =
    continues_with i.limits c.requires.writer.depth_of i.depth walk.kinds_at c.item-item.ensures (c.next.ensures.comes taken) in
    let is : coming_to g.R.RawReader.reading c.items.reader ≡ More item (coming_to g.R.RawReader.reading c.next.new.self) = c.next.ensures.gives (i.read.1 r) taken in
    let part : HasPrefix (so_far written c.items.sink ++ w.adds limits walk.path item) (written c.item.new.sink.device) =
    taken_as (λ l x. HasPrefix (so_far written c.items.sink ++ w.adds l walk.path x) (written c.item.new.sink.device)) i.limits c.item-item.ensures
    ((c.item.ensures.part i.sink walk.path walk.stands_at may).prefix (i.written.1 o)) in
    record {
      accepted = tt;
      rejected = λ reason place e.
          let refused = refused_as c.in-Err.is e in
          let why = c.item.ensures.refuses i.fresh i.sink walk.path walk.stands_at may reason place refused in
          ap (so_far written) (c.item.ensures.quiet i.sink reason place refused)
          ∙ (walk-refused walk item _ reason place r is (taken_as (λ l x. w.refusal l walk.path x ≡ Some (reason, place)) i.limits c.item-item.ensures why)).1 o;
      prefix = walk-fault walk (w.adds limits) (g.met.W.ValueWriter.grows limits) (g.met.W.ValueWriter.silent limits) item _ _ r o is part;
    }

pub returns-in-Err-clause-causes : goal.returns-in-Err-clause-causes
returns-in-Err-clause-causes g c =
    let w = g.W.ValueWriter in
    let i = c.items.invariant in
    let walk = i.walk in
    let taken : c.next.result ≡ Ok true = c.in_ok-next.was ∙ ap Ok c.if-branch.true in
    let may : Continues (w.limits c.items.writer) walk.path (item_of (λ s. text_at s.table) c.item-item.result) =
    continues_with i.limits c.requires.writer.depth_of i.depth walk.kinds_at c.item-item.ensures (c.next.ensures.comes taken) in
    let puts = c.item.ensures.part i.sink walk.path walk.stands_at may in
    let so_good : Unharmed c.args.meter.now c.items.meter (g.R.RawReader.failures c.args.reader.now.raw) (g.R.RawReader.failures c.items.reader.raw) g.O.Output c.args.sink.now.device c.items.sink.device =
    record { refused = i.refused; reads = i.failures; writes = i.device; observable = i.written; grown = i.grown } in
    item_causes _ (unharmed_read so_good (c.in_ok-next.ensures.causes i.well)) (c.in-Err.ensures.memory i.fresh) (c.in-Err.ensures.causes i.fresh i.sink)
    puts.still_observable (λ o. prefix-then _ _ _ (puts.grown (i.written.1 o)) (i.grown o))

pub returns-in-Err-clause-input : goal.returns-in-Err-clause-input
returns-in-Err-clause-input g c =
    let i = c.items.invariant in
    (λ o. i.read.0 (c.next.ensures.observable.0 o), λ o. c.next.ensures.observable.1 (i.read.1 o))

pub returns-in-Err-clause-taken : goal.returns-in-Err-clause-taken
returns-in-Err-clause-taken g c =
    g.met.R.RawReader.read_more c.args.reader.now.raw c.items.reader.raw c.next.new.self.raw c.items.invariant.taken c.next.ensures.read_on

pub returns-in-Err-clause-joined : goal.returns-in-Err-clause-joined
returns-in-Err-clause-joined g c =
    let i = c.items.invariant in
    record {
      ready = c.next.ensures.ready;
      limits = c.next.ensures.same.0 ∙ i.same;
      reader_most = c.next.ensures.kept.1 ∙ i.most;
      stays = record { sound = c.item.ensures.sound; limits = c.item.ensures.limits ∙ i.limits; most = c.item.ensures.most ∙ i.writer_most };
      well = record { accepted = tt; rejected = λ reason place e. ap (λ s. s.fault) (c.item.ensures.quiet i.sink reason place (refused_as c.in-Err.is e)) ∙ i.sink };
    }

pub returns-in-Err-clause-charges : goal.returns-in-Err-clause-charges
returns-in-Err-clause-charges g c =
    let w = g.W.ValueWriter in
    let r = g.R.RawReader in
    let i = c.items.invariant in
    let share = same_share _ _ _ _ i.most i.same in
    let few = subst (λ n. w.own c.items.writer ≤ n) i.writer_most (g.met.W.ValueWriter.within c.items.writer i.writer).share in
    let most = subst (λ n. owned_by r.own c.next.new.self ≤ n) share c.next.ensures.charges.share in
    let r_old = owned_by r.own c.args.reader.now in
    let r_now = owned_by r.own c.items.reader in
    let r_new = owned_by r.own c.next.new.self in
    let w_old = w.own c.args.writer.now in
    let w_now = w.own c.items.writer in
    let r_most = share_of r.most c.args.reader.now in
    let w_most = w.most c.args.writer.now in
    charges_written r_old w_old r_new w_now (w.own c.item.new.self) r_most w_most
    (charges_read r_old w_old r_now w_now r_new r_most w_most i.charges c.next.ensures.charges share c.requires.room.held few) c.item.ensures.charges i.writer_most c.requires.room.held most

-- what is known where an item was put, and not yet what is handed on after it
put_well : (g : Over) (c : In_default g) → Unharmed c.args.meter.now c.item.new.meter (g.R.RawReader.failures c.args.reader.now.raw) (g.R.RawReader.failures c.next.new.self.raw)
    g.O.Output c.args.sink.now.device c.item.new.sink.device
put_well g c =
    let i = c.items.invariant in
    let walk = i.walk in
    let may : Continues (g.W.ValueWriter.limits c.items.writer) walk.path (item_of (λ s. text_at s.table) c.item-item.result) =
    continues_with i.limits c.requires.writer.depth_of i.depth walk.kinds_at c.item-item.ensures (c.next.ensures.comes (c.in_ok-next.was ∙ ap Ok c.if-branch.true)) in
    let puts = c.item.ensures.part i.sink walk.path walk.stands_at may in
    let so_good : Unharmed c.args.meter.now c.items.meter (g.R.RawReader.failures c.args.reader.now.raw) (g.R.RawReader.failures c.items.reader.raw) g.O.Output c.args.sink.now.device c.items.sink.device =
    record { refused = i.refused; reads = i.failures; writes = i.device; observable = i.written; grown = i.grown } in
    unharmed_put (unharmed_read so_good (c.in_ok-next.ensures.causes i.well)) (c.in_default.ensures.memory i.fresh) (c.in_default.ensures.causes i.fresh i.sink)
    puts.still_observable (λ o. prefix-then _ _ _ (puts.grown (i.written.1 o)) (i.grown o))

put_charges : (g : Over) (c : In_default g) → Charges c.args.meter.now c.item.new.meter (owned_by g.R.RawReader.own c.args.reader.now + g.W.ValueWriter.own c.args.writer.now)
    (owned_by g.R.RawReader.own c.next.new.self + g.W.ValueWriter.own c.item.new.self) (share_of g.R.RawReader.most c.args.reader.now + g.W.ValueWriter.most c.args.writer.now)
put_charges g c =
    let w = g.W.ValueWriter in
    let r = g.R.RawReader in
    let i = c.items.invariant in
    let share = same_share _ _ _ _ i.most i.same in
    let few = subst (λ n. w.own c.items.writer ≤ n) i.writer_most (g.met.W.ValueWriter.within c.items.writer i.writer).share in
    let most = subst (λ n. owned_by r.own c.next.new.self ≤ n) share c.next.ensures.charges.share in
    let r_old = owned_by r.own c.args.reader.now in
    let r_now = owned_by r.own c.items.reader in
    let r_new = owned_by r.own c.next.new.self in
    let w_old = w.own c.args.writer.now in
    let w_now = w.own c.items.writer in
    let r_most = share_of r.most c.args.reader.now in
    let w_most = w.most c.args.writer.now in
    charges_written r_old w_old r_new w_now (w.own c.item.new.self) r_most w_most
    (charges_read r_old w_old r_now w_now r_new r_most w_most i.charges c.next.ensures.charges share c.requires.room.held few) c.item.ensures.charges i.writer_most c.requires.room.held most

put_walk : (g : Over) (c : In_default g) (ended : ℕ) → ended ≡ c.items.at.values + one_if_closed (g.R.RawReader.opened c.next.new.self.raw)
    → Walk (g.W.ValueWriter.stands c.item.new.self) (g.W.ValueWriter.puts (g.W.ValueWriter.limits c.args.writer.now)) (g.W.ValueWriter.refusal (g.W.ValueWriter.limits c.args.writer.now))
    (g.R.RawReader.observable c.args.reader.now.raw) (g.O.Output.observable c.args.sink.now.device) (g.R.RawReader.opened c.next.new.self.raw) ended
    (coming_to g.R.RawReader.reading c.args.reader.now) (coming_to g.R.RawReader.reading c.next.new.self) (so_far g.O.Output.written c.args.sink.now) (so_far g.O.Output.written c.item.new.sink)
put_walk g c ended counts =
    let w = g.W.ValueWriter in
    let r = g.R.RawReader in
    let out = g.O.Output in
    let limits = w.limits c.args.writer.now in
    let i = c.items.invariant in
    let walk = i.walk in
    let taken : c.next.result ≡ Ok true = c.in_ok-next.was ∙ ap Ok c.if-branch.true in
    let item = lent_by r.current c.next.new.self in
    let comes = c.next.ensures.comes taken in
    let may : Continues (w.limits c.items.writer) walk.path (item_of (λ s. text_at s.table) c.item-item.result) =
    continues_with i.limits c.requires.writer.depth_of i.depth walk.kinds_at c.item-item.ensures comes in
    let stood = c.in_default.ensures.stands walk.path walk.stands_at may in
    let later : w.stands c.item.new.self (walk.path ++ item ∷ []) = subst (λ (x : PlacedItem). w.stands c.item.new.self (walk.path ++ x ∷ [])) c.item-item.ensures stood.0 in
    let none : w.refusal limits walk.path item ≡ None = taken_as (λ l x. w.refusal l walk.path x ≡ None) i.limits c.item-item.ensures stood.1 in
    let is : r.observable c.args.reader.now.raw → coming_to r.reading c.items.reader ≡ More item (coming_to r.reading c.next.new.self) = λ o. c.next.ensures.gives (i.read.1 o) taken in
    let put : out.observable c.args.sink.now.device → so_far out.written c.item.new.sink ≡ so_far out.written c.items.sink ++ w.adds limits walk.path item =
    λ o. taken_as (λ l x. so_far out.written c.item.new.sink ≡ so_far out.written c.items.sink ++ w.adds l walk.path x) i.limits c.item-item.ensures (c.in_default.ensures.puts walk.path walk.stands_at may (i.written.1 o)) in
    walk-more walk (w.adds limits) (g.met.W.ValueWriter.grows limits) item (coming_to r.reading c.next.new.self) _ _ _ is none later put comes.opens counts

put_level : (g : Over) (c : In_default g) (level : ℕ) → length (open_after (g.R.RawReader.opened c.items.reader.raw) (raw_head c.head-head.result)) ≡ level
    → length (g.R.RawReader.opened c.next.new.self.raw) ≡ level
put_level g c level is =
    let comes = c.next.ensures.comes (c.in_ok-next.was ∙ ap Ok c.if-branch.true) in
    level_with (g.R.RawReader.opened c.items.reader.raw) _ _ (lent_by g.R.RawReader.current c.next.new.self) (item_of (λ s. text_at s.table) c.item-item.result) level
    comes.opens c.item-item.ensures c.head-head.ensures is

pub depth_after-level-requires : goal.depth_after-level-requires
depth_after-level-requires g c =
    let i = c.items.invariant in
    let w = g.met.R.RawReader.within c.items.reader.raw i.ready.raw in
    subst (λ n. n ≤ 65535) i.level (le_trans w.level w.deep)

pub feed_windows-requires-clause-room : goal.feed_windows-requires-clause-room
feed_windows-requires-clause-room g c =
    let a = (goal.at.feed_windows-requires-clause-room g c).In_default in
    room_put _ _ (put_charges g a) c.requires.room (put_well g a).refused

pub feed_windows-requires-clause-writer : goal.feed_windows-requires-clause-writer
feed_windows-requires-clause-writer g c =
    let w = g.W.ValueWriter in
    let i = c.items.invariant in
    let walk = i.walk in
    let item = lent_by g.R.RawReader.current c.next.new.self in
    let comes = c.next.ensures.comes (c.in_ok-next.was ∙ ap Ok c.if-branch.true) in
    let may : Continues (w.limits c.items.writer) walk.path (item_of (λ s. text_at s.table) c.item-item.result) =
    continues_with i.limits c.requires.writer.depth_of i.depth walk.kinds_at c.item-item.ensures comes in
    let stood = c.in_default.ensures.stands walk.path walk.stands_at may in
    let later : w.stands c.item.new.self (walk.path ++ item ∷ []) = subst (λ (x : PlacedItem). w.stands c.item.new.self (walk.path ++ x ∷ [])) c.item-item.ensures stood.0 in
    record {
      sound = c.item.ensures.sound;
      fresh = c.in_default.ensures.failed;
      well = c.in_default.ensures.well i.sink;
      depth_of = ap (λ (l : Limits). l.depth) (c.item.ensures.limits ∙ i.limits) ∙ c.requires.writer.depth_of ∙ sym (c.next.ensures.kept.0 ∙ i.depth);
      after = (walk.path ++ item ∷ [], later, open_after_all-append [] walk.path item ∙ (ap (λ k. open_after k item.head) walk.kinds_at ∙ sym comes.opens));
    }

pub feed_windows-requires-clause-start : goal.feed_windows-requires-clause-start
feed_windows-requires-clause-start g c =
    sym (put_level g (goal.at.feed_windows-requires-clause-start g c).In_default c.depth_after-level.result (c.depth_after-level.ensures (g.R.RawReader.opened c.items.reader.raw) c.items.invariant.level))

pub feed_windows-requires-clause-left : goal.feed_windows-requires-clause-left
feed_windows-requires-clause-left g c =
    let i = c.items.invariant in
    let a = (goal.at.feed_windows-requires-clause-left g c).In_default in
    let level = put_level g a c.depth_after-level.result (c.depth_after-level.ensures (g.R.RawReader.opened c.items.reader.raw) i.level) in
    let counts = c.values_after.ensures (g.R.RawReader.opened c.next.new.self.raw) level in
    let left = left_with (g.R.RawReader.opened c.next.new.self.raw) _ _ _ _ i.left (c.next.ensures.falls (c.in_ok-next.was ∙ ap Ok c.if-branch.true)) in
    omega (arith, counts, left, (g.met.R.RawReader.within c.args.reader.now.raw c.requires.reader.ready.raw).few)

pub returns-in-Err-feed_windows-clause-says : goal.returns-in-Err-feed_windows-clause-says
returns-in-Err-feed_windows-clause-says g c r = record {
  accepted = λ n e. absurd (err_is e);
  rejected = λ reason place e. absurd (not_refused c.in-Err-feed_windows.ensures.sent.cause e);
}

pub returns-in-Err-feed_windows-clause-puts : goal.returns-in-Err-feed_windows-clause-puts
returns-in-Err-feed_windows-clause-puts g c reading o =
    let w = g.W.ValueWriter in
    let limits = w.limits c.args.writer.now in
    let i = c.items.invariant in
    let a = (goal.at.returns-in-Err-feed_windows-clause-puts g c).In_default in
    let h = c.in-Err-feed_windows.ensures in
    let level = put_level g a c.depth_after-level.result (c.depth_after-level.ensures (g.R.RawReader.opened c.items.reader.raw) i.level) in
    let counts = c.values_after.ensures (g.R.RawReader.opened c.next.new.self.raw) level in
    let fed = walk-moved g.R.RawReader w g.O.Output limits _ _ _ _ _ _ _ _ _ (g.met.W.ValueWriter.grows limits) (c.item.ensures.limits ∙ i.limits) (λ o. c.next.ensures.observable.1 (i.read.1 o)) h.moved
    (put_walk g a c.values_after.result counts) in
    record {
      accepted = tt;
      rejected = λ reason place e. absurd (not_refused h.sent.cause e);
      prefix = walk-prefix fed (w.adds limits) (g.met.W.ValueWriter.grows limits) _ reading o (h.sent.prefix ((put_well g a).observable.1 o));
    }

pub returns-in-Err-feed_windows-clause-causes : goal.returns-in-Err-feed_windows-clause-causes
returns-in-Err-feed_windows-clause-causes g c =
    let u = put_well g (goal.at.returns-in-Err-feed_windows-clause-causes g c).In_default in
    let m = c.in-Err-feed_windows.ensures.moved in
    let s = c.in-Err-feed_windows.ensures.sent in
    flush_causes _ (unharmed_fed u m.refused m.failures refl) s.cause s.count s.still_observable (λ o. prefix-then _ _ _ (s.grown (u.observable.1 o)) (u.grown o))

pub returns-in-Err-feed_windows-clause-input : goal.returns-in-Err-feed_windows-clause-input
returns-in-Err-feed_windows-clause-input g c =
    let i = c.items.invariant in
    let fed = c.in-Err-feed_windows.ensures.moved.observable in
    (λ o. i.read.0 (c.next.ensures.observable.0 (fed.0 o)), λ o. fed.1 (c.next.ensures.observable.1 (i.read.1 o)))

pub returns-in-Err-feed_windows-clause-taken : goal.returns-in-Err-feed_windows-clause-taken
returns-in-Err-feed_windows-clause-taken g c =
    g.met.R.RawReader.read_more c.args.reader.now.raw c.next.new.self.raw c.feed_windows.new.reader.raw
    (g.met.R.RawReader.read_more c.args.reader.now.raw c.items.reader.raw c.next.new.self.raw c.items.invariant.taken c.next.ensures.read_on) c.in-Err-feed_windows.ensures.moved.read_on

pub returns-in-Err-feed_windows-clause-joined : goal.returns-in-Err-feed_windows-clause-joined
returns-in-Err-feed_windows-clause-joined g c =
    let i = c.items.invariant in
    let h = c.in-Err-feed_windows.ensures in
    let s = h.moved.stays in
    record {
      ready = h.moved.ready;
      limits = h.moved.limits ∙ (c.next.ensures.same.0 ∙ i.same);
      reader_most = h.moved.most ∙ (c.next.ensures.kept.1 ∙ i.most);
      stays = record { sound = s.sound; limits = s.limits ∙ (c.item.ensures.limits ∙ i.limits); most = s.most ∙ (c.item.ensures.most ∙ i.writer_most) };
      well = record { accepted = tt; rejected = λ reason place e. absurd (not_refused h.sent.cause e) };
    }

pub returns-in-Err-feed_windows-clause-charges : goal.returns-in-Err-feed_windows-clause-charges
returns-in-Err-feed_windows-clause-charges g c =
    let i = c.items.invariant in
    let w = g.W.ValueWriter in
    let r = g.R.RawReader in
    let share = same_share _ _ _ _ (c.next.ensures.kept.1 ∙ i.most) (c.next.ensures.same.0 ∙ i.same) in
    let put = put_charges g (goal.at.returns-in-Err-feed_windows-clause-charges g c).In_default in
    charges_fed (owned_by r.own c.args.reader.now) (w.own c.args.writer.now) (owned_by r.own c.next.new.self) (w.own c.item.new.self) (owned_by r.own c.feed_windows.new.reader) (w.own c.feed_windows.new.writer)
    (share_of r.most c.args.reader.now) (w.most c.args.writer.now) put c.in-Err-feed_windows.ensures.moved.charges share (c.item.ensures.most ∙ i.writer_most) c.requires.room.held

pub items-smaller : goal.items-smaller
items-smaller g c = omega (arith, c.in-Ok.ensures.moved.falls, c.next.ensures.falls (c.in_ok-next.was ∙ ap Ok c.if-branch.true))

pub items-preserved : goal.items-preserved
items-preserved g c =
    let w = g.W.ValueWriter in
    let r = g.R.RawReader in
    let limits = w.limits c.args.writer.now in
    let i = c.items.invariant in
    let a = (goal.at.items-preserved g c).In_default in
    let next = c.next.ensures in
    let taken : c.next.result ≡ Ok true = c.in_ok-next.was ∙ ap Ok c.if-branch.true in
    let item = lent_by r.current c.next.new.self in
    let comes = next.comes taken in
    let level = put_level g a c.depth_after-level.result (c.depth_after-level.ensures (r.opened c.items.reader.raw) i.level) in
    let counts = c.values_after.ensures (r.opened c.next.new.self.raw) level in
    let u = put_well g a in
    let h = c.in-Ok.ensures in
    let m = h.moved in
    let s = h.sent in
    let reads : r.observable c.args.reader.now.raw → r.observable c.next.new.self.raw = λ o. next.observable.1 (i.read.1 o) in
    let fed = walk-moved r w g.O.Output limits _ _ _ _ _ _ _ _ _ (g.met.W.ValueWriter.grows limits) (c.item.ensures.limits ∙ i.limits) reads m (put_walk g a c.values_after.result counts) in
    let followed = i.followed in
    let follows : Continues (w.limits c.items.writer) followed.path (item_of (λ s. text_at s.table) c.item-item.result) =
    continues_with i.limits c.requires.writer.depth_of i.depth followed.kinds_at c.item-item.ensures comes in
    let after : w.stands c.item.new.self (followed.path ++ item ∷ []) =
    subst (λ (x : PlacedItem). w.stands c.item.new.self (followed.path ++ x ∷ [])) c.item-item.ensures (c.in_default.ensures.stands followed.path followed.stands_at follows).0 in
    record {
      walk = walk-same fed (λ o. s.whole (u.observable.1 o)) (sym h.counts.0);
      followed = followed-feeds w _ _ _ _ (feeds-under w reads m.feeds) (followed-more followed item (coming_to r.reading c.next.new.self) (r.opened c.next.new.self.raw) (λ o. next.gives (i.read.1 o) taken) after comes.opens);
      read = (λ o. i.read.0 (next.observable.0 (m.observable.0 o)), λ o. m.observable.1 (reads o));
      taken = g.met.R.RawReader.read_more c.args.reader.now.raw c.next.new.self.raw c.feed_windows.new.reader.raw
          (g.met.R.RawReader.read_more c.args.reader.now.raw c.items.reader.raw c.next.new.self.raw i.taken next.read_on) m.read_on;
      written = (λ o. u.observable.0 (s.still_observable.0 o), λ o. s.still_observable.1 (u.observable.1 o));
      prefix = λ o. (c.feed_windows.new.sink.pending, refl);
      grown = λ o. prefix-then _ _ _ (s.grown (u.observable.1 o)) (u.grown o);
      ready = m.ready;
      well = m.answered ∙ c.in_ok-next.ensures.failed;
      writer = m.stays.sound;
      fresh = m.failed ∙ c.in_default.ensures.failed;
      sink = s.well;
      level = sym h.counts.1;
      left = left_moved _ _ _ _ _ _ _ (left_with (r.opened c.next.new.self.raw) _ _ _ _ i.left (next.falls taken)) counts m.counts h.counts.0;
      limits = m.stays.limits ∙ (c.item.ensures.limits ∙ i.limits);
      depth = m.depth ∙ (next.kept.0 ∙ i.depth);
      refused = m.refused ∙ u.refused;
      failures = m.failures ∙ u.reads;
      device = s.count ∙ (add-zero _ ∙ u.writes);
      exceeds = (λ e. i.exceeds.0 (next.exceeds.0 (m.exceeds.0 e)), λ e. m.exceeds.1 (next.exceeds.1 (i.exceeds.1 e)));
      bytes_left = λ b. i.bytes_left (next.bytes_left (m.bytes_left b));
      most = m.most ∙ (next.kept.1 ∙ i.most);
      same = m.limits ∙ (next.same.0 ∙ i.same);
      writer_most = m.stays.most ∙ (c.item.ensures.most ∙ i.writer_most);
      charges = charges_fed (owned_by r.own c.args.reader.now) (w.own c.args.writer.now) (owned_by r.own c.next.new.self) (w.own c.item.new.self) (owned_by r.own c.feed_windows.new.reader) (w.own c.feed_windows.new.writer)
          (share_of r.most c.args.reader.now) (w.most c.args.writer.now) (put_charges g a) m.charges (same_share _ _ _ _ (next.kept.1 ∙ i.most) (next.same.0 ∙ i.same)) (c.item.ensures.most ∙ i.writer_most) c.requires.room.held;
    }

pub returns-clause-says : goal.returns-clause-says
returns-clause-says g c = λ o.
    let t = c.items.invariant.walk in
    record {
      accepted = λ n e. t.verdict o ∙ (ap (verdict_after _ t.path) (c.next.ensures.ends (c.items.invariant.read.1 o) (c.in_ok-next.was ∙ ap Ok c.if-branch.false)).0 ∙ ap Accepted (t.values_at ∙ same_ok e));
      rejected = λ reason place e. absurd (ok_is e);
    }

pub returns-clause-puts : goal.returns-clause-puts
returns-clause-puts g c = λ o p.
    let w = g.W.ValueWriter in
    let limits = w.limits c.args.writer.now in
    let before = so_far g.O.Output.written c.args.sink.now in
    let t = c.items.invariant.walk in
    let ends = (c.next.ensures.ends (c.items.invariant.read.1 o) (c.in_ok-next.was ∙ ap Ok c.if-branch.false)).0 in
    let whole = t.put p ∙ ap (λ l. before ++ l) (sym (t.output o ∙ ap (output_after (w.puts limits) (w.refusal limits) t.path) ends)) in
    record {
      accepted = whole;
      rejected = λ reason place e. absurd (ok_is e);
      prefix = subst (λ l. HasPrefix l (g.O.Output.written c.items.sink.device)) whole (c.items.invariant.prefix p);
    }

pub returns-clause-stands : goal.returns-clause-stands
returns-clause-stands g c r =
    followed-all c.items.invariant.followed r (c.next.ensures.ends (c.items.invariant.read.1 r) (c.in_ok-next.was ∙ ap Ok c.if-branch.false)).0

pub returns-clause-bytes : goal.returns-clause-bytes
returns-clause-bytes g c =
    let next = c.next.ensures in
    c.items.invariant.bytes_left (next.bytes_left (g.met.R.RawReader.none_left c.next.new.self.raw next.ready.raw (next.ended (c.in_ok-next.was ∙ ap Ok c.if-branch.false))))

pub returns-clause-causes : goal.returns-clause-causes
returns-clause-causes g c =
    let i = c.items.invariant in
    let so_good : Unharmed c.args.meter.now c.items.meter (g.R.RawReader.failures c.args.reader.now.raw) (g.R.RawReader.failures c.items.reader.raw) g.O.Output c.args.sink.now.device c.items.sink.device =
    record { refused = i.refused; reads = i.failures; writes = i.device; observable = i.written; grown = i.grown } in
    whole_causes c.items.at.values _ (unharmed_read so_good (c.in_ok-next.ensures.causes i.well))

pub returns-clause-input : goal.returns-clause-input
returns-clause-input g c =
    let i = c.items.invariant in
    (λ o. i.read.0 (c.next.ensures.observable.0 o), λ o. c.next.ensures.observable.1 (i.read.1 o))

pub returns-clause-taken : goal.returns-clause-taken
returns-clause-taken g c =
    g.met.R.RawReader.read_more c.args.reader.now.raw c.items.reader.raw c.next.new.self.raw c.items.invariant.taken c.next.ensures.read_on

pub returns-clause-joined : goal.returns-clause-joined
returns-clause-joined g c =
    let i = c.items.invariant in
    record {
      ready = c.next.ensures.ready;
      limits = c.next.ensures.same.0 ∙ i.same;
      reader_most = c.next.ensures.kept.1 ∙ i.most;
      stays = record { sound = i.writer; limits = i.limits; most = i.writer_most };
      well = record { accepted = i.sink; rejected = λ reason place e. i.sink };
    }

pub returns-clause-charges : goal.returns-clause-charges
returns-clause-charges g c =
    let w = g.W.ValueWriter in
    let r = g.R.RawReader in
    let i = c.items.invariant in
    let share = same_share _ _ _ _ i.most i.same in
    let few = subst (λ n. w.own c.items.writer ≤ n) i.writer_most (g.met.W.ValueWriter.within c.items.writer i.writer).share in
    charges_read (owned_by r.own c.args.reader.now) (w.own c.args.writer.now) (owned_by r.own c.items.reader) (w.own c.items.writer) (owned_by r.own c.next.new.self) (share_of r.most c.args.reader.now) (w.most c.args.writer.now)
    i.charges c.next.ensures.charges share c.requires.room.held few

pub items-init : goal.items-init
items-init g c = grind (arith, common_steps, g.met.R.RawReader.not_read c.args.reader.now.raw)

pub values_after-requires : goal.values_after-requires
values_after-requires g c = grind (arith, common_steps)

pub returns-in_err-begin-clause-joined : goal.returns-in_err-begin-clause-joined
returns-in_err-begin-clause-joined g c = grind (arith, common_steps)

pub item-requires-clause-room : goal.item-requires-clause-room
item-requires-clause-room g c = grind (arith, common_steps)

pub item-requires-clause-held : goal.item-requires-clause-held
item-requires-clause-held g c = grind (arith, common_steps)

pub returns-in_err-begin-clause-charges : goal.returns-in_err-begin-clause-charges
returns-in_err-begin-clause-charges g c = grind (arith, common_steps)

pub returns-in_err-begin-clause-says : goal.returns-in_err-begin-clause-says
returns-in_err-begin-clause-says g c = grind (arith, common_steps)

pub next-requires-clause-room : goal.next-requires-clause-room
next-requires-clause-room g c = grind (arith, common_steps)

pub returns-in-Err-feed_windows-clause-stands : goal.returns-in-Err-feed_windows-clause-stands
returns-in-Err-feed_windows-clause-stands g c = grind (arith, common_steps)

pub returns-in-Err-feed_windows-clause-bytes : goal.returns-in-Err-feed_windows-clause-bytes
returns-in-Err-feed_windows-clause-bytes g c = grind (arith, common_steps)

pub returns-in-Err-clause-stands : goal.returns-in-Err-clause-stands
returns-in-Err-clause-stands g c = grind (arith, common_steps)

pub returns-in-Err-clause-bytes : goal.returns-in-Err-clause-bytes
returns-in-Err-clause-bytes g c = grind (arith, common_steps)

pub item-requires-clause-sound : goal.item-requires-clause-sound
item-requires-clause-sound g c = grind (arith, common_steps)

pub next-requires-clause-held : goal.next-requires-clause-held
next-requires-clause-held g c = grind (arith, common_steps)
