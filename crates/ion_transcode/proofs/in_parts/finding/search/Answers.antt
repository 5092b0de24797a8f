use Rattle.std.proofs.Common.{rules, ◌≡◌, ◌+◌, ◌≤◌, true, Ok, None, [], ◌∷◌, ◌++◌, refl, ap, sym, ◌∙◌, arith}
use Rattle.ion_meter.specs.declared.limits.Limits.{Limits}
use Rattle.ion_value.specs.Shares.{fault_of}
use Rattle.ion_value.specs.Standing.{open_after}
use Rattle.ion_value.proofs.Outcomes.{open_after_all-append}
use Rattle.ion_transcode.proofs.HandingOn.{stands-feeds}
use Rattle.ion_transcode.proofs.PartItems.{charges-on}
use Rattle.ion_transcode.proofs.in_parts.finding.search.Goals as goal

pub items-init : goal.items-init
items-init g c =
    record {
      after = ([], c.requires.finder, sym c.requires.reader.level);
      limits = refl;
      sink = c.requires.sink;
      sound = c.requires.reader.sound;
      fresh = c.requires.reader.well;
      depth = refl;
      refused = refl;
      most = refl;
      charges = record { held = refl; share = (g.met.R.RawReader.within c.args.raw.now c.requires.reader.sound).share; peak = omega arith; rises = omega arith };
    }

pub feed-requires-clause-writer : goal.feed-requires-clause-writer
feed-requires-clause-writer g c =
    let r = g.R.RawReader in
    let i = c.items.invariant in
    let taken : c.next.result ≡ Ok true = search rules in
    let item = r.current c.next.new.self in
    let n = c.next.ensures in
    let writer = c.note.ensures in
    let well : c.note.new.self.writer.failed ≡ None = ap (λ w. w.failed) writer ∙ i.after.1 in
    record {
      sound = tt;
      fresh = well;
      well = i.sink;
      depth_of = ap (λ (l : Limits). l.depth) (ap (λ w. w.limits) writer ∙ i.limits) ∙ (c.requires.reader.depth ∙ (sym i.depth ∙ sym n.depth));
      after = (i.after.0 ++ item ∷ [], well, open_after_all-append [] i.after.0 item ∙ (ap (λ k. open_after k item.head) i.after.2 ∙ sym (n.opens taken)));
    }

pub items-preserved : goal.items-preserved
items-preserved g c =
    let r = g.R.RawReader in
    let i = c.items.invariant in
    let taken : c.next.result ≡ Ok true = search rules in
    let item = r.current c.next.new.self in
    let n = c.next.ensures in
    let refused : c.next.new.meter.refused ≡ c.args.meter.now.refused = search rules in
    let f = c.feed.ensures in
    let s = f.writer in
    let writer = c.note.ensures in
    let well : c.note.new.self.writer.failed ≡ None = ap (λ w. w.failed) writer ∙ i.after.1 in
    record {
      after = stands-feeds _ _ _ _ _ f.feeds (i.after.0 ++ item ∷ [], well, open_after_all-append [] i.after.0 item ∙ (ap (λ k. open_after k item.head) i.after.2 ∙ sym (n.opens taken)));
      limits = s.limits ∙ (ap (λ w. w.limits) writer ∙ i.limits);
      sink = s.fault ∙ i.sink;
      sound = f.sound;
      fresh = f.same.0 ∙ (n.failed ∙ ap fault_of taken);
      depth = f.same.1 ∙ (n.depth ∙ i.depth);
      refused = s.refused ∙ refused;
      most = f.same.2 ∙ (n.most ∙ i.most);
      charges = charges-on (charges-on i.charges n.charges i.most c.requires.room.held)
          (record { held = omega (arith, f.charges.held); share = omega (arith, f.charges.share); peak = omega (arith, f.charges.peak); rises = f.charges.rises }) (n.most ∙ i.most) c.requires.room.held;
    }
