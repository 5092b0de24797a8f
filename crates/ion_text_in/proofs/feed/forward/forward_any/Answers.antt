use Rattle.std.proofs.Common.{◌∙◌, true, Option, reverse, sym, ap, subst}
use Rattle.ion_value.specs.declared.ion_type.Kind.{Kind}
use Rattle.ion_value.specs.Items.{raw_head}
use Rattle.ion_value.proofs.Handing.{may-take}
use Rattle.ion_text_in.specs.declared.feed.spot.Spot.{Spot}
use Rattle.ion_text_in.specs.Feeding.{lane, passed, place_in, with_begun, Opens, TurnsBy}
use Rattle.ion_text_in.proofs.FeedIds.{found-seen, start-seen}
use Rattle.ion_text_in.proofs.FeedItems.{head-stands, item-passed, turns-forward, turns-undone}
use Rattle.ion_text_in.proofs.FeedLanes.{turns-none}
use Rattle.ion_text_in.proofs.feed.forward.forward_any.Goals as goal

pub take_plain-requires-clause-path : goal.take_plain-requires-clause-path
take_plain-requires-clause-path g c =
    let a = c.args in
    let r = c.requires in
    let start = a.further.start in
    let found = r.found.head in
    let opens = c.open_begun.ensures.opens c.if-not-open_begun.false in
    let begins = sym c.begun-begins.ensures in
    let depth = a.bounds.limits.depth in
    let passes = item-passed depth a.kinds.now c.open_begun.new.kinds a.at.now a.found c.top_at-top.result (raw_head a.found.head) found.range found.value found.member r.can.kind
    (opens.is ∙ ap (with_begun a.kinds.now) (sym begins)) opens.few in
    may-take g.W.ValueWriter depth (reverse a.kinds.now) a.writer.now a.sink.now _ r.can.takes
    (head-stands a.kinds.now a.at.now start (raw_head a.found.head) c.top_at-top.result (place_in a.bounds start.next.rest.now) a.found.rest.now r.can.expects r.start.read found passes.place)

pub take_plain-requires-clause-spelled : goal.take_plain-requires-clause-spelled
take_plain-requires-clause-spelled g c = c.as_bare.ensures (raw_head c.args.found.head) c.requires.found.spelled

pub returns-then-not-open_begun : goal.returns-then-not-open_begun
returns-then-not-open_begun g c = λ texts start found. let d = c.open_begun.ensures.declines c.if-not-open_begun.true in rw (d.0, d.1) (turns-none c.requires.can)

pub returns-then-not-take_plain : goal.returns-then-not-take_plain
returns-then-not-take_plain g c = λ texts start found.
    let a = c.args in
    let d = c.take_plain.ensures.declines c.if-not-take_plain.true in
    let opens = c.open_begun.ensures.opens c.if-not-open_begun.false in
    let closed = c.close_begun.ensures a.kinds.now opens.is in
    turns-undone a.kinds.now c.open_begun.new.kinds c.close_begun.new.kinds a.at.now a.writer.now c.take_plain.new.self a.sink.now c.take_plain.new.sink
    a.meter.now c.open_begun.new.meter c.take_plain.new.meter c.close_begun.new.meter d.0 d.1 closed.0 opens d.2 closed.1 c.requires.can

pub returns : goal.returns
returns g c = λ texts start found.
    let a = c.args in
    let t = c.take_plain in
    let e = t.ensures in
    let yes = c.if-not-take_plain.false in
    let kinds = reverse a.kinds.now in
    let inner = sym c.innermost-inner.ensures in
    let head = raw_head a.found.head in
    let opens = subst (λ (b : Option Kind). Opens a.bounds.limits.depth b a.kinds.now c.open_begun.new.kinds a.meter.now c.open_begun.new.meter) c.begun-begins.ensures (c.open_begun.ensures.opens c.if-not-open_begun.false) in
    let now = c.pass_item.ensures kinds inner ∙ ap (λ (b : Option Kind). passed b kinds a.at.now a.found c.top_at-top.result) c.begun-begins.ensures in
    subst (λ (s : Spot). TurnsBy g.W.ValueWriter a.bounds texts true (lane a.kinds.now a.at.now a.writer.now a.sink.now a.meter.now) (lane c.open_begun.new.kinds s t.new.self t.new.sink t.new.meter)) (sym now)
    (turns-forward a.kinds.now c.open_begun.new.kinds a.at.now a.further.start a.found c.top_at-top.result a.writer.now t.new.self a.sink.now t.new.sink a.meter.now c.open_begun.new.meter t.new.meter
    (start-seen start) (found-seen found) c.requires.can start.read found.head (c.top_at-top.ensures.is kinds inner) opens
    (record {
      sound = e.sound;
      stands = e.stands yes;
      puts = e.puts yes;
      failed = e.same.0;
      limits = e.same.1;
      most = e.same.2;
      device = e.device.0;
      fault = e.device.1;
      refused = e.counted;
    })
    e.charges)
