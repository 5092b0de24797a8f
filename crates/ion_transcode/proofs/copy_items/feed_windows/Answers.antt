use Rattle.std.proofs.Common.{◌≡◌, ℕ, ◌+◌, ◌≤◌, None, Ok, refl, sym, ◌∙◌, arith}
use Rattle.ion_meter.specs.Windows.{so_far}
use Rattle.ion_value.specs.Feeding.{nothing}
use Rattle.ion_value.proofs.Handing.{feeds-then, feeds-under}
use Rattle.ion_symbols.specs.User.{coming_to, owned_by, share_of}
use Rattle.ion_transcode.specs.Calls.{HandsOn, HasMoved}
use Rattle.ion_transcode.proofs.Copying.{same_share}
use Rattle.ion_transcode.proofs.Feeding.{charges_fed}
use Rattle.ion_transcode.proofs.HandingOn.{FeedsAfter, charges-none, feeds-after, put-after, sent-cut, sent-none, sent-whole, stands-feeds, takes-feeds}
use Rattle.ion_transcode.proofs.copy_items.feed_windows.Given.{Over}
use Rattle.ion_transcode.proofs.copy_items.feed_windows.Goals.{After-flush_ended}
use Rattle.ion_transcode.proofs.copy_items.feed_windows.Goals as goal

-- the items of a turn go on with those before
turn : (g : Over) (c : After-flush_ended g) → FeedsAfter g.W.ValueWriter (λ item. item) (g.R.RawReader.observable c.args.reader.now.raw)
    (record {
      coming = coming_to g.R.RawReader.reading c.windows.reader;
      opened = g.R.RawReader.opened c.windows.reader.raw;
      writer = c.windows.writer;
      pending = c.windows.sink.pending;
      values = 0;
    })
    (record {
      coming = coming_to g.R.RawReader.reading c.feed-fed.new.self;
      opened = g.R.RawReader.opened c.feed-fed.new.self.raw;
      writer = c.feed-fed.new.writer;
      pending = c.feed-fed.new.sink.pending;
      values = c.feed-fed.result.values;
    })
    c.windows.invariant.put c.windows.invariant.values
turn g c =
    let w = g.W.ValueWriter in
    let m = c.windows.invariant.moved in
    feeds-after w (λ item. item) _ _ _ _ _ (feeds-under w (λ o. m.observable.1 o) c.feed-fed.ensures.feeds) (stands-feeds w (λ item. item) _ _ _ m.feeds c.requires.writer.after)

moved : (g : Over) (c : After-flush_ended g) → HasMoved g.R.RawReader g.W.ValueWriter g.O.Output c.args.start.values (turn g c).values (turn g c).put
    (record { reader = c.args.reader.now; writer = c.args.writer.now; sink = c.args.sink.now; meter = c.args.meter.now })
    (record { reader = c.feed-fed.new.self; writer = c.feed-fed.new.writer; sink = c.flush_ended.new.sink; meter = c.feed-fed.new.meter })
moved g c =
    let w = g.W.ValueWriter in
    let r = g.R.RawReader in
    let f = turn g c in
    let m = c.windows.invariant.moved in
    let e = c.feed-fed.ensures in
    let s = e.writer in
    record {
      feeds = feeds-then w m.feeds f.feeds;
      counts = omega (arith, m.counts, e.falls, f.counts);
      falls = omega (arith, m.falls, e.falls);
      ready = e.ready;
      level = e.level.0;
      observable = (λ o. m.observable.0 (e.observable.0 o), λ o. e.observable.1 (m.observable.1 o));
      read_on = g.met.R.RawReader.read_more c.args.reader.now.raw c.windows.reader.raw c.feed-fed.new.self.raw m.read_on e.read_on;
      limits = e.same.0 ∙ m.limits;
      answered = e.same.2 ∙ m.answered;
      depth = e.kept.0 ∙ m.depth;
      most = e.kept.1 ∙ m.most;
      failures = e.kept.2 ∙ m.failures;
      exceeds = (λ x. m.exceeds.0 (e.exceeds.0 x), λ x. e.exceeds.1 (m.exceeds.1 x));
      bytes_left = λ b. m.bytes_left (e.bytes_left b);
      stays = record { sound = s.sound; limits = s.limits ∙ m.stays.limits; most = s.most ∙ m.stays.most };
      failed = s.failed ∙ m.failed;
      refused = s.refused ∙ m.refused;
      charges = charges_fed (owned_by r.own c.args.reader.now) (w.own c.args.writer.now) (owned_by r.own c.windows.reader) (w.own c.windows.writer)
          (owned_by r.own c.feed-fed.new.self) (w.own c.feed-fed.new.writer) (share_of r.most c.args.reader.now) (w.most c.args.writer.now)
          m.charges e.charges (same_share _ _ _ _ m.most m.limits) m.stays.most c.requires.room.held;
    }

-- and so does what was put
is_put : (g : Over) (c : After-flush_ended g) → g.O.Output.observable c.args.sink.now.device → so_far g.O.Output.written c.feed-fed.new.sink ≡ (turn g c).put
is_put g c o =
    let f = turn g c in
    put-after g.O.Output.written c.windows.sink c.feed-fed.new.sink _ _ c.feed-fed.ensures.writer.device f.pends (c.windows.invariant.sent.whole o) ∙ sym f.puts

-- where that was sent, all is as before a turn
handed : (g : Over) (c : After-flush_ended g) (flushed : ℕ)
    → (g.O.Output.observable c.feed-fed.new.sink.device → so_far g.O.Output.written c.flush_ended.new.sink ≡ so_far g.O.Output.written c.feed-fed.new.sink) → c.flush_ended.new.sink.fault ≡ None
    → g.O.Output.failure_count c.flush_ended.new.sink.device ≡ g.O.Output.failure_count c.feed-fed.new.sink.device + 0
    → HandsOn g.R.RawReader g.W.ValueWriter g.O.Output c.args.start (Ok (record { level = c.feed-fed.result.level; values = c.windows.at.values + c.feed-fed.result.values; flushed = flushed }))
    (record { reader = c.args.reader.now; writer = c.args.writer.now; sink = c.args.sink.now; meter = c.args.meter.now })
    (record { reader = c.feed-fed.new.self; writer = c.feed-fed.new.writer; sink = c.flush_ended.new.sink; meter = c.feed-fed.new.meter })
handed g c flushed same well count =
    let f = turn g c in
    let i = c.windows.invariant in
    record {
      values = f.values;
      put = f.put;
      moved = moved g c;
      sent = sent-whole c.windows.at _ i.sent c.feed-fed.ensures.writer.device (is_put g c) c.flush_ended.ensures.puts same well count;
      counts = (omega (arith, f.counts, i.counts.0), c.feed-fed.ensures.level.1);
    }

pub windows-init : goal.windows-init
windows-init g c =
    let w = g.W.ValueWriter in
    let r = g.R.RawReader in
    let few : owned_by r.own c.args.reader.now + w.own c.args.writer.now ≤ share_of r.most c.args.reader.now + w.most c.args.writer.now = omega (arith, (g.met.R.RawReader.within c.args.reader.now.raw c.requires.ready.raw).share, c.requires.ready.cheap, (g.met.W.ValueWriter.within c.args.writer.now c.requires.writer.sound).share) in
    record {
      values = c.args.start.values;
      put = so_far g.O.Output.written c.args.sink.now;
      moved = record {
        feeds = nothing;
        counts = omega arith;
        falls = omega arith;
        ready = c.requires.ready;
        level = c.requires.level;
        observable = (λ o. o, λ o. o);
        read_on = g.met.R.RawReader.not_read c.args.reader.now.raw;
        limits = refl;
        answered = refl;
        depth = refl;
        most = refl;
        failures = refl;
        exceeds = (λ e. e, λ e. e);
        bytes_left = λ b. b;
        stays = record { sound = c.requires.writer.sound; limits = refl; most = refl };
        failed = refl;
        refused = refl;
        charges = charges-none c.args.meter.now (owned_by r.own c.args.reader.now + w.own c.args.writer.now) (share_of r.most c.args.reader.now + w.most c.args.writer.now) few;
      };
      sent = sent-none c.args.start c.args.sink.now c.requires.writer.well;
      counts = (refl, c.requires.start);
    }

pub feed-fed-requires-clause-writer : goal.feed-fed-requires-clause-writer
feed-fed-requires-clause-writer g c =
    let i = c.windows.invariant in
    let m = i.moved in
    takes-feeds g.W.ValueWriter (λ item. item) _ _ _ c.requires.writer m.feeds m.stays.sound m.failed m.stays.limits i.sent.well m.depth

pub returns-in-Err : goal.returns-in-Err
returns-in-Err g c =
    let a = (goal.at.returns-in-Err g c).After-flush_ended in
    let e = c.in-Err.ensures in
    record {
      values = (turn g a).values;
      put = (turn g a).put;
      moved = moved g a;
      sent = sent-cut c.windows.at c.windows.invariant.sent c.feed-fed.ensures.writer.device (is_put g a) e.puts e.cause e.count;
      counts = tt;
    }

pub returns-then-not-is_full : goal.returns-then-not-is_full
returns-then-not-is_full g c =
    handed g (goal.at.returns-then-not-is_full g c).After-flush_ended c.in-Ok.flushed c.in-Ok.ensures.same c.in-Ok.ensures.well c.in-Ok.ensures.count

pub windows-preserved : goal.windows-preserved
windows-preserved g c =
    handed g (goal.at.windows-preserved g c).After-flush_ended c.in-Ok.flushed c.in-Ok.ensures.same c.in-Ok.ensures.well c.in-Ok.ensures.count
