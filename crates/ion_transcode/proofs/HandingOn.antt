-- Items are handed on after others, and what is put is written between.
use Rattle.std.proofs.Common.{◌≡◌, ℕ, ◌+◌, ◌^◌, ◌≤◌, ◌↔◌, List, [], ◌∷◌, ◌++◌, None, Ok, Err, refl, ap, sym, subst, ◌∙◌, add-zero, append-nil, append_assoc, arith}
use Rattle.std.proofs.lemmas.List.{append_cancel_left}
use Rattle.ion_meter.specs.Counts.{Counts}
use Rattle.ion_meter.specs.Windows.{Outgoing, HasPrefix, Puts, so_far, write_failures_in}
use Rattle.ion_meter.specs.declared.device.Output.{Ghosts as OutputOf}
use Rattle.ion_meter.specs.declared.fault.Fault.{Fault}
use Rattle.ion_meter.specs.declared.fault.Fault.TheVariants.{WriteFault}
use Rattle.ion_meter.specs.declared.limits.Limits.{Limits}
use Rattle.ion_value.specs.declared.ion_type.Kind.{Kind}
use Rattle.ion_value.specs.declared.writer.ValueWriter.{Ghosts as WriterOf}
use Rattle.ion_value.specs.Feeding.{CanTake, Feeds, nothing, more, Joint}
use Rattle.ion_value.specs.Outcome.{one_if_closed}
use Rattle.ion_value.specs.Shares.{Charges}
use Rattle.ion_value.specs.Standing.{open_after, open_after_all}
use Rattle.ion_value.specs.Value.{PlacedItem}
use Rattle.ion_value.specs.Reading.{Reading}
use Rattle.ion_value.specs.declared.reader.RawReader.{Ghosts as ReaderOf}
use Rattle.ion_value.proofs.Handing.{feeds-under}
use Rattle.ion_value.proofs.Outcomes.{Grows, Walk, open_after_all-append, prefix-then}
use Rattle.ion_symbols.specs.User.{coming_to}
use Rattle.ion_transcode.specs.Calls.{HasMoved, HasRoom, IsSent, Parts}
use Rattle.ion_transcode.proofs.Feeding.{walk-feeds, walk-same}

-- a writer stands after some items, where these containers are open
abbrev pub StandsAt : {W O A : Type 0} → WriterOf W O A → List Kind → W → Type 0
StandsAt w opened writer = (path : List PlacedItem) × w.stands writer path × (open_after_all [] path ≡ opened)

-- and so it does after what was handed on
pub stands-feeds : {W O A : Type 0} (w : WriterOf W O A) (see : PlacedItem → PlacedItem) (reads : Type 0) (old new : Joint W)
    → Feeds w see reads old new → StandsAt w old.opened old.writer → StandsAt w new.opened new.writer
stands-feeds w see reads old _ nothing at = at
stands-feeds w see reads old new (more now _ feeds h) at =
    let b = stands-feeds w see reads old now feeds at in
    (b.0 ++ see h.item ∷ [], h.stands b.0 b.1 b.2, open_after_all-append [] b.0 (see h.item) ∙ (ap (λ k. open_after k (see h.item).head) b.2 ∙ sym h.opens))

-- the writer can take what comes then
pub takes-feeds : {W O A : Type 0} (w : WriterOf W O A) (see : PlacedItem → PlacedItem) (reads : Type 0) (old new : Joint W) {depth depth_then : ℕ} {from to : Outgoing O}
    → CanTake w depth old.opened old.writer from → Feeds w see reads old new → w.sound new.writer → w.failed new.writer ≡ w.failed old.writer → w.limits new.writer ≡ w.limits old.writer
    → to.fault ≡ None → depth_then ≡ depth → CanTake w depth_then new.opened new.writer to
takes-feeds w see reads old new can feeds sound failed limits well deep = record {
  sound = sound;
  fresh = failed ∙ can.fresh;
  well = well;
  depth_of = ap (λ (l : Limits). l.depth) limits ∙ (can.depth_of ∙ sym deep);
  after = stands-feeds w see reads old new feeds can.after;
}

-- what was handed on after other items, where this was put and so many values had ended before
pub record FeedsAfter {W O A : Type 0} (w : WriterOf W O A) (see : PlacedItem → PlacedItem) (reads : Type 0) (old new : Joint W) (before : List ℕ) (earlier : ℕ) : Type 0 where
  pub put : List ℕ
  pub values : ℕ
  pub added : List ℕ
  pub feeds : Feeds w see reads (record old { pending = before; values = earlier }) (record new { pending = put; values = values })
  pub puts : put ≡ before ++ added
  pub pends : new.pending ≡ old.pending ++ added
  pub counts : values + old.values ≡ earlier + new.values

pub feeds-after : {W O A : Type 0} (w : WriterOf W O A) (see : PlacedItem → PlacedItem) (reads : Type 0) (old new : Joint W) (before : List ℕ) (earlier : ℕ)
    → Feeds w see reads old new → StandsAt w old.opened old.writer → FeedsAfter w see reads old new before earlier
feeds-after w see reads old _ before earlier nothing at = record {
  put = before;
  values = earlier;
  added = [];
  feeds = nothing;
  puts = sym (append-nil before);
  pends = sym (append-nil old.pending);
  counts = refl;
}
feeds-after w see reads old new before earlier (more now _ feeds h) at =
    let f = feeds-after w see reads old now before earlier feeds at in
    let b = stands-feeds w see reads old now feeds at in
    let adds = w.adds (w.limits now.writer) in
    let mine = adds b.0 (see h.item) in
    let puts = h.puts b.0 b.1 b.2 in
    record {
      put = f.put ++ mine;
      values = f.values + one_if_closed new.opened;
      added = f.added ++ mine;
      feeds = more (record now { pending = f.put; values = f.values }) _ f.feeds (record {
        item = h.item;
        plain = h.plain;
        fits = h.fits;
        gives = h.gives;
        opens = h.opens;
        counts = refl;
        limits = h.limits;
        stands = h.stands;
        taken = h.taken;
        puts = λ path stands kinds. ap (λ (l : List ℕ). f.put ++ l) (append_cancel_left now.pending mine (adds path (see h.item)) (sym puts ∙ h.puts path stands kinds));
      });
      puts = ap (λ (l : List ℕ). l ++ mine) f.puts ∙ append_assoc before f.added mine;
      pends = puts ∙ (ap (λ (l : List ℕ). l ++ mine) f.pends ∙ append_assoc old.pending f.added mine);
      counts = omega (arith, f.counts, h.counts);
    }

-- all that was put then, where the device is as it was
pub put-after : {O : Type 0} (written : O → List ℕ) (old new : Outgoing O) (before added : List ℕ) → new.device ≡ old.device → new.pending ≡ old.pending ++ added → so_far written old ≡ before
    → so_far written new ≡ before ++ added
put-after {O = O} written old new before added device pends is =
    ap (λ (d : O). written d ++ new.pending) device ∙ (ap (λ (l : List ℕ). written old.device ++ l) pends
    ∙ (sym (append_assoc (written old.device) old.pending added) ∙ ap (λ (l : List ℕ). l ++ added) is))

-- the device where a sink ends
record DeviceMoved {O : Type 0} (output : OutputOf O) (start new end : O) : Type 0 where
  at : output.observable start → output.observable new
  still_observable : output.observable end ↔ output.observable start
  grown : output.observable start → HasPrefix (output.written end) (output.written start)

moved_to : {T O : Type 0} {output : OutputOf O} {before : List ℕ} {start old new end : Outgoing O} {x : T} → IsSent output (Ok x) before start old → new.device ≡ old.device
    → Puts output.written output.observable new end [] → DeviceMoved output start.device new.device end.device
moved_to {output = output} {start = start} {new = new} s device puts =
    let at : output.observable start.device → output.observable new.device = λ o. subst output.observable (sym device) (s.still_observable.1 o) in
    record {
      at = at;
      still_observable = (λ o. s.still_observable.0 (subst output.observable device (puts.still_observable.0 o)), λ o. puts.still_observable.1 (at o));
      grown = λ o. prefix-then _ _ _ (puts.grown (at o)) (subst (λ d. HasPrefix (output.written d) (output.written start.device)) (sym device) (s.grown o));
    }

-- the sink after these: what was put is written in part or whole
pub sent-whole : {T O : Type 0} {output : OutputOf O} {before put : List ℕ} {start old new end : Outgoing O} (x y : T) → IsSent output (Ok x) before start old → new.device ≡ old.device
    → (output.observable start.device → so_far output.written new ≡ put) → Puts output.written output.observable new end [] → (output.observable new.device → so_far output.written end ≡ so_far output.written new)
    → end.fault ≡ None → output.failure_count end.device ≡ output.failure_count new.device + 0 → IsSent output (Ok y) put start end
sent-whole {output = output} {put = put} {start = start} {new = new} {end = end} x y s device is puts same well count =
    let p = moved_to s device puts in
    record {
      whole = λ o. same (p.at o) ∙ is o;
      well = well;
      cause = tt;
      count = count ∙ (add-zero _ ∙ (ap output.failure_count device ∙ s.count));
      still_observable = p.still_observable;
      grown = p.grown;
      prefix = λ o. subst (λ l. HasPrefix l (output.written end.device)) (append-nil _ ∙ is o) (puts.prefix (p.at o));
    }

-- or the device has failed
pub sent-cut : {T O : Type 0} {output : OutputOf O} {before put : List ℕ} {start old new end : Outgoing O} {fault : Fault} (x : T) → IsSent output (Ok x) before start old → new.device ≡ old.device
    → (output.observable start.device → so_far output.written new ≡ put) → Puts output.written output.observable new end [] → fault ≡ WriteFault
    → output.failure_count end.device ≡ output.failure_count new.device + write_failures_in {T = T} None (Err fault) → IsSent {T = T} output (Err fault) put start end
sent-cut {T = T} {output = output} {put = put} {start = start} {new = new} {end = end} {fault = fault} x s device is puts cause count =
    let p = moved_to s device puts in
    record {
      whole = tt;
      well = tt;
      cause = cause;
      count = count ∙ ap (λ (n : ℕ). n + write_failures_in {T = T} None (Err fault)) (ap output.failure_count device ∙ (s.count ∙ add-zero _));
      still_observable = p.still_observable;
      grown = p.grown;
      prefix = λ o. subst (λ l. HasPrefix l (output.written end.device)) (append-nil _ ∙ is o) (puts.prefix (p.at o));
    }

-- where nothing was handed on, all is as it was
pub sent-none : {T O : Type 0} {output : OutputOf O} (x : T) (sink : Outgoing O) → sink.fault ≡ None → IsSent output (Ok x) (so_far output.written sink) sink sink
sent-none {output = output} x sink well = record {
  whole = λ o. refl;
  well = well;
  cause = tt;
  count = sym (add-zero _);
  still_observable = (λ o. o, λ o. o);
  grown = λ o. ([], sym (append-nil _));
  prefix = λ o. (sink.pending, refl);
}

-- where nothing moved, nothing is held more
pub charges-none : (a : Counts) (own most : ℕ) → own ≤ most → Charges a a own own most
charges-none a own most few = record {
  held = refl;
  share = few;
  peak = omega arith;
  rises = omega arith;
}

-- a call may follow an item that was put
pub room_put : {a b : Counts} (before after : ℕ) {most : ℕ} → Charges a b before after most → HasRoom (2 ^ 59) before a → b.refused ≡ a.refused → HasRoom (2 ^ 59 + after) after b
room_put before after c h same = record {
  room = omega (arith, c.held, h.room);
  held = omega (arith, c.held, h.held);
  countable = omega (arith, same, h.countable);
}

-- the values and what is left keep below what was left
pub left_moved : (start values answered left_old left_new earlier most : ℕ) → earlier + left_old ≤ most → start ≡ earlier → values + left_new ≤ start + left_old → answered ≡ values → answered + left_new ≤ most
left_moved start values answered left_old left_new earlier most h e f is = omega (arith, h, e, f, is)

-- a walk goes on over what has moved
pub walk-moved : {R W O A : Type 0} (r : ReaderOf R A) (w : WriterOf W O A) (output : OutputOf O) (limits : Limits) (reads writes : Type 0) (all : Reading) (before : List ℕ) (earlier values : ℕ) (put : List ℕ)
    (old new : Parts R W O A) → Grows (w.puts limits) (w.adds limits) (w.refusal limits) → w.limits old.writer ≡ limits → (reads → r.observable old.reader.raw) → HasMoved r w output earlier values put old new
    → Walk (w.stands old.writer) (w.puts limits) (w.refusal limits) reads writes (r.opened old.reader.raw) earlier all (coming_to r.reading old.reader) before (so_far output.written old.sink)
    → Walk (w.stands new.writer) (w.puts limits) (w.refusal limits) reads writes (r.opened new.reader.raw) values all (coming_to r.reading new.reader) before put
walk-moved r w output limits reads writes all before earlier values put old new grows same under m walk =
    let from : earlier ≡ 0 + earlier = omega arith in
    let to : 0 + values ≡ values = omega arith in
    walk-same (walk-feeds w limits reads writes all before [] 0 _ _ grows same (feeds-under w under m.feeds) (walk-same walk (λ _. refl) from)) (λ _. refl) to
