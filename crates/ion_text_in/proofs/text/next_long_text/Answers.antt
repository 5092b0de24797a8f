use Rattle.std.proofs.Common.{◌≡◌, ◌∙◌, Bool, true, false, Some, None, Ok, Err, sym, ap}
use Rattle.ion_meter.specs.Sources.{Cursor, cursor, skip}
use Rattle.ion_text_in.specs.Overrun.{overrun}
use Rattle.ion_text_in.specs.Quotes.{quote_of}
use Rattle.ion_text_in.specs.Gathered.{passed}
use Rattle.ion_text_in.proofs.Quotes.{quote_of-is}
use Rattle.ion_text_in.proofs.GatherCalls.{gathers-then, gathers-read, gathers-over, gathers-as, gathers-fault}
use Rattle.ion_text_in.proofs.Holding.{handed-on}
use Rattle.ion_text_in.proofs.SegmentTexts.{after_text, long-err, long-ends, long-goes, next-cut, next-by}
use Rattle.ion_text_in.proofs.TextTokens.{overruns-refused}
use Rattle.ion_text_in.proofs.text.next_long_text.Goals as goal

pub returns-in_err-next_segment-clause-gives : goal.returns-in_err-next_segment-clause-gives
returns-in_err-next_segment-clause-gives g c = λ h.
    let inv = c.segments.invariant in
    let q = quote_of c.args.quote in
    rw (handed-on c.from_residual.result c.in_err-next_segment.field-0.0 c.from_residual.ensures) (overruns-refused c.in_err-next_segment.field-0.0 q.in_clob c.next_segment.new.text (cursor g.I.Input c.next_segment.new.source) c.args.place
    _ _ _ (c.in_err-next_segment.ensures.gives (inv.gathers.reads.moves.still_observable.1 h))
    (λ e k. inv.same h ∙ long-err q c.args.limits.scalar c.segments.text (cursor g.I.Input c.segments.source) e (quote_of-is c.args.quote) k))

pub returns-in-Some-clause-gives : goal.returns-in-Some-clause-gives
returns-in-Some-clause-gives g c = λ h.
    let inv = c.segments.invariant in
    let q = quote_of c.args.quote in
    let t = cursor g.I.Input c.next_segment.new.source in
    let ht = c.in_ok-next_segment.ensures.gathers.reads.moves.still_observable.1 (inv.gathers.reads.moves.still_observable.1 h) in
    let after : passed q.in_clob t ≡ overrun (Some c.in-Some.start) (cursor g.I.Input c.pass_between.new.source) = rw c.in-Some.is at (c.in_ok-start.ensures.gives ht) in (
      t,
      inv.same h
          ∙ long-ends q c.args.limits.scalar c.segments.text c.next_segment.new.text (cursor g.I.Input c.segments.source) t (quote_of-is c.args.quote) (c.in_ok-next_segment.ensures.gives (inv.gathers.reads.moves.still_observable.1 h))
          (next-cut q t (cursor g.I.Input c.pass_between.new.source) c.in-Some.start c.requires.long after),
      after,
    )

pub returns-then-not-branch-clause-gives : goal.returns-then-not-branch-clause-gives
returns-then-not-branch-clause-gives g c = λ h.
    let inv = c.segments.invariant in
    let q = quote_of c.args.quote in
    let t = cursor g.I.Input c.next_segment.new.source in
    let u = cursor g.I.Input c.pass_between.new.source in
    let ht = c.in_ok-next_segment.ensures.gathers.reads.moves.still_observable.1 (inv.gathers.reads.moves.still_observable.1 h) in
    let after : passed q.in_clob t ≡ overrun None u = rw c.in_default.is at (c.in_ok-start.ensures.gives ht) in
    let none = c.in_ok-pass_quotes.ensures.none (c.in_ok-start.ensures.reads.moves.still_observable.1 ht) (ap (λ (b : Bool). Ok b) c.if-not-branch.true) in (
      t,
      inv.same h
          ∙ long-ends q c.args.limits.scalar c.segments.text c.next_segment.new.text (cursor g.I.Input c.segments.source) t (quote_of-is c.args.quote) (c.in_ok-next_segment.ensures.gives (inv.gathers.reads.moves.still_observable.1 h))
          (next-by c.args.quote t u false c.requires.long after none.0),
      after ∙ ap (λ (d : Cursor). Ok d) (sym none.1),
    )

pub segments-preserved : goal.segments-preserved
segments-preserved g c =
    let inv = c.segments.invariant in
    let q = quote_of c.args.quote in
    let limit = c.args.limits.scalar in
    let t = cursor g.I.Input c.next_segment.new.source in
    let u = cursor g.I.Input c.pass_between.new.source in
    let s = c.args.source.now in
    let m = c.args.meter.now in
    let n = c.next_segment.new.meter in
    let k = c.args.text.now in
    let l = c.next_segment.new.text in
    let v = c.pass_between.new.source in
    let x = c.in_ok-start.field-0 in
    let over = gathers-over g.I.Input c.args.limits s c.segments.source m c.segments.meter k c.segments.text c.next_segment.new.source v n l tt c.in_ok-next_segment.field-0 (Ok x) c.requires.can_read.holds
    c.segments.invariant.gathers c.in_ok-next_segment.ensures.gathers c.in_ok-start.ensures.reads in
    record {
      gathers = gathers-as g.I.Input c.args.limits s c.pass_quotes.new.source m n k l c.in_ok-pass_quotes.field-0 tt (gathers-read g.I.Input c.args.limits s v m n k l c.pass_quotes.new.source x (Ok c.in_ok-pass_quotes.field-0) over c.in_ok-pass_quotes.ensures.reads);
      same = λ h.
          let hs = inv.gathers.reads.moves.still_observable.1 h in
          let ht = c.in_ok-next_segment.ensures.gathers.reads.moves.still_observable.1 hs in
          let after : passed q.in_clob t ≡ overrun None u = rw c.in_default.is at (c.in_ok-start.ensures.gives ht) in
          let some = c.in_ok-pass_quotes.ensures.some (c.in_ok-start.ensures.reads.moves.still_observable.1 ht) (ap (λ (b : Bool). Ok b) c.if-not-branch.false) in
          inv.same h
          ∙ long-goes q limit c.segments.text c.next_segment.new.text (cursor g.I.Input c.segments.source) t (skip 3 u) (quote_of-is c.args.quote) (c.in_ok-next_segment.ensures.gives hs)
          (next-by c.args.quote t u true c.requires.long after some.0)
          ∙ ap (λ (d : Cursor). after_text q limit c.next_segment.new.text d) (sym some.1);
    }

pub returns-in_err-next_segment-clause-gathers : goal.returns-in_err-next_segment-clause-gathers
returns-in_err-next_segment-clause-gathers g c =
    let f = c.in_err-next_segment.field-0.0 in
    rw (handed-on c.from_residual.result f c.from_residual.ensures)
    (gathers-fault g.I.Input c.args.limits c.args.source.now c.next_segment.new.source c.args.meter.now c.next_segment.new.meter c.args.text.now c.next_segment.new.text f
    (gathers-then g.I.Input c.args.limits c.args.source.now c.segments.source c.args.meter.now c.segments.meter c.args.text.now c.segments.text c.next_segment.new.source c.next_segment.new.meter c.next_segment.new.text
    tt (Err f) c.requires.can_read.holds c.segments.invariant.gathers c.in_err-next_segment.ensures.gathers))

pub returns-in_err-start-clause-gathers : goal.returns-in_err-start-clause-gathers
returns-in_err-start-clause-gathers g c =
    let s = c.args.source.now in
    let m = c.args.meter.now in
    let n = c.next_segment.new.meter in
    let k = c.args.text.now in
    let l = c.next_segment.new.text in
    let v = c.pass_between.new.source in
    let f = c.in_err-start.field-0.0 in
    rw (handed-on c.from_residual-in_err-start.result f c.from_residual-in_err-start.ensures)
    (gathers-over g.I.Input c.args.limits s c.segments.source m c.segments.meter k c.segments.text c.next_segment.new.source v n l tt c.in_ok-next_segment.field-0 (Err f) c.requires.can_read.holds
    c.segments.invariant.gathers c.in_ok-next_segment.ensures.gathers c.in_err-start.ensures.reads)

pub returns-in-Some-clause-gathers : goal.returns-in-Some-clause-gathers
returns-in-Some-clause-gathers g c =
    let s = c.args.source.now in
    let m = c.args.meter.now in
    let n = c.next_segment.new.meter in
    let k = c.args.text.now in
    let l = c.next_segment.new.text in
    let v = c.pass_between.new.source in
    let x = c.in_ok-start.field-0 in
    let over = gathers-over g.I.Input c.args.limits s c.segments.source m c.segments.meter k c.segments.text c.next_segment.new.source v n l tt c.in_ok-next_segment.field-0 (Ok x) c.requires.can_read.holds
    c.segments.invariant.gathers c.in_ok-next_segment.ensures.gathers c.in_ok-start.ensures.reads in
    gathers-as g.I.Input c.args.limits s v m n k l x (Some c.in-Some.start) over

pub returns-in_err-pass_quotes-clause-gathers : goal.returns-in_err-pass_quotes-clause-gathers
returns-in_err-pass_quotes-clause-gathers g c =
    let s = c.args.source.now in
    let m = c.args.meter.now in
    let n = c.next_segment.new.meter in
    let k = c.args.text.now in
    let l = c.next_segment.new.text in
    let v = c.pass_between.new.source in
    let x = c.in_ok-start.field-0 in
    let over = gathers-over g.I.Input c.args.limits s c.segments.source m c.segments.meter k c.segments.text c.next_segment.new.source v n l tt c.in_ok-next_segment.field-0 (Ok x) c.requires.can_read.holds
    c.segments.invariant.gathers c.in_ok-next_segment.ensures.gathers c.in_ok-start.ensures.reads in
    let f = c.in_err-pass_quotes.field-0.0 in
    rw (handed-on c.from_residual-in_err-pass_quotes.result f c.from_residual-in_err-pass_quotes.ensures)
    (gathers-fault g.I.Input c.args.limits s c.pass_quotes.new.source m n k l f (gathers-read g.I.Input c.args.limits s v m n k l c.pass_quotes.new.source x (Err f) over c.in_err-pass_quotes.ensures.reads))

pub returns-then-not-branch-clause-gathers : goal.returns-then-not-branch-clause-gathers
returns-then-not-branch-clause-gathers g c =
    let s = c.args.source.now in
    let m = c.args.meter.now in
    let n = c.next_segment.new.meter in
    let k = c.args.text.now in
    let l = c.next_segment.new.text in
    let v = c.pass_between.new.source in
    let x = c.in_ok-start.field-0 in
    let over = gathers-over g.I.Input c.args.limits s c.segments.source m c.segments.meter k c.segments.text c.next_segment.new.source v n l tt c.in_ok-next_segment.field-0 (Ok x) c.requires.can_read.holds
    c.segments.invariant.gathers c.in_ok-next_segment.ensures.gathers c.in_ok-start.ensures.reads in
    gathers-as g.I.Input c.args.limits s c.pass_quotes.new.source m n k l c.in_ok-pass_quotes.field-0 None (gathers-read g.I.Input c.args.limits s v m n k l c.pass_quotes.new.source x (Ok c.in_ok-pass_quotes.field-0) over c.in_ok-pass_quotes.ensures.reads)
