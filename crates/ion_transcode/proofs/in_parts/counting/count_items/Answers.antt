use Rattle.std.proofs.Common.{rules, ◌≡◌, ◌+◌, ◌≤◌, true, false, List, Ok, None, [], ◌∷◌, ◌++◌, length, refl, ap, sym, ◌∙◌, arith}
use Rattle.ion_meter.specs.declared.limits.Limits.{Limits}
use Rattle.ion_value.specs.Items.{raw_head}
use Rattle.ion_value.specs.Reading.{items_then}
use Rattle.ion_value.specs.Shares.{fault_of}
use Rattle.ion_value.specs.Value.{PlacedItem}
use Rattle.ion_value.proofs.Handing.{feeds-under}
use Rattle.ion_transcode.specs.PartCalls.{HasTaken, marker_at}
use Rattle.ion_transcode.proofs.Copying.{none_is}
use Rattle.ion_transcode.proofs.Following.{Followed, followed-more}
use Rattle.ion_transcode.proofs.PartItems.{charges-on, counting-feeds, counting-more, taken-named}
use Rattle.ion_transcode.proofs.in_parts.counting.count_items.Goals as goal

pub items-init : goal.items-init
items-init g c =
    record {
      counting = record {
        followed = record { path = []; stands_at = (c.new-counter.ensures.well, c.new-counter.ensures.nothing); kinds_at = sym c.requires.reader.level; all_is = λ o. refl };
        known = refl;
      };
      well = c.new-counter.ensures.well;
      limits = c.new-counter.ensures.limits;
      sink = c.requires.sink;
      observable = (λ o. o, λ o. o);
      sound = c.requires.reader.sound;
      fresh = c.requires.reader.well;
      depth = refl;
      refused = refl;
      most = refl;
      charges = record { held = refl; share = (g.met.R.RawReader.within c.args.raw.now c.requires.reader.sound).share; peak = omega arith; rises = omega arith };
    }

pub feed-requires-clause-writer : goal.feed-requires-clause-writer
feed-requires-clause-writer g c =
    let r = g.R.RawReader in
    let i = c.items.invariant in
    let taken : c.next.result ≡ Ok true = c.in_ok-next.was ∙ ap Ok c.if-branch.true in
    let item = r.current c.next.new.self in
    let head : item.head ≡ raw_head c.head-what.result = search rules in
    let n = c.next.ensures in
    let writer = c.count.ensures.writer in
    let k = i.counting.followed in
    let well : c.count.new.self.writer.failed ≡ None = ap (λ w. w.failed) writer ∙ i.well in
    let f = followed-more {later = λ path. (c.count.new.self.writer.failed ≡ None) × HasTaken path c.count.new.self.items c.count.new.self.is_firm} k item (r.reading c.next.new.self) (r.opened c.next.new.self)
    (λ o. n.gives (i.observable.1 o) taken) (well, c.count.ensures.counts k.path item head k.stands_at.1) (n.opens taken) in
    record {
      sound = tt;
      fresh = well;
      well = i.sink;
      depth_of = ap (λ (l : Limits). l.depth) (ap (λ w. w.limits) writer ∙ i.limits) ∙ (c.requires.reader.depth ∙ (sym i.depth ∙ sym n.depth));
      after = (f.path, f.stands_at, f.kinds_at);
    }

pub items-preserved : goal.items-preserved
items-preserved g c =
    let r = g.R.RawReader in
    let i = c.items.invariant in
    let taken : c.next.result ≡ Ok true = c.in_ok-next.was ∙ ap Ok c.if-branch.true in
    let item = r.current c.next.new.self in
    let head : item.head ≡ raw_head c.head-what.result = search rules in
    let n = c.next.ensures in
    let f = c.feed.ensures in
    let s = f.writer in
    let writer = c.count.ensures.writer in
    let k = i.counting.followed in
    let well : c.count.new.self.writer.failed ≡ None = ap (λ w. w.failed) writer ∙ i.well in
    let all : c.in-Ok.items ≡ length k.path = c.in-Ok.ensures.items.0 ∙ (k.stands_at.1 (omega (arith, c.in-Ok.ensures.items.0, c.in-Ok.ensures.items.1))).0 in
    record {
      counting = counting-feeds _ _ _ _ _ _ _ _ (feeds-under _ (λ o. n.observable.1 (i.observable.1 o)) f.feeds)
          (counting-more {later = λ path. (c.count.new.self.writer.failed ≡ None) × HasTaken path c.count.new.self.items c.count.new.self.is_firm} i.counting item (r.reading c.next.new.self) (r.opened c.next.new.self) c.marked-is_marked.result
          (λ o. n.gives (i.observable.1 o) taken) (well, c.count.ensures.counts k.path item head k.stands_at.1) (n.opens taken) (c.marked-is_marked.ensures k.path item head all i.counting.known))
          (λ w path i s. (s.0, taken-named _ path i w.items w.is_firm s.1));
      well = s.failed ∙ well;
      limits = s.limits ∙ (ap (λ w. w.limits) writer ∙ i.limits);
      sink = s.fault ∙ i.sink;
      observable = (λ o. i.observable.0 (n.observable.0 (f.observable.0 o)), λ o. f.observable.1 (n.observable.1 (i.observable.1 o)));
      sound = f.sound;
      fresh = f.same.0 ∙ (n.failed ∙ ap fault_of taken);
      depth = f.same.1 ∙ (n.depth ∙ i.depth);
      refused = s.refused ∙ ((c.in_ok-next.ensures.causes i.fresh).counted none_is ∙ i.refused);
      most = f.same.2 ∙ (n.most ∙ i.most);
      charges = charges-on (charges-on i.charges n.charges i.most c.requires.room.held)
          (record { held = omega (arith, f.charges.held); share = omega (arith, f.charges.share); peak = omega (arith, f.charges.peak); rises = f.charges.rises }) (n.most ∙ i.most) c.requires.room.held;
    }

pub returns-clause-counts : goal.returns-clause-counts
returns-clause-counts g c = λ o counted e.
    let r = g.R.RawReader in
    let i = c.items.invariant in
    let k = i.counting.followed in
    let ends : c.next.result ≡ Ok false = search rules in
    record {
      items = k.path;
      read = k.all_is o ∙ ap (items_then k.path) (c.next.ensures.ends (i.observable.1 o) ends).0;
      are = c.counted.ensures.counts counted e k.path k.stands_at.1 c.args.at i.counting.known;
    }
