use Rattle.std.proofs.Common.{◌∙◌, ◌+◌, true, reverse, refl, sym, subst}
use Rattle.ion_value.specs.Outcome.{one_if_closed}
use Rattle.ion_text_in.specs.declared.feed.spot.Spot.{Spot}
use Rattle.ion_text_in.specs.Expecting.{is_separated}
use Rattle.ion_text_in.specs.Feeding.{lane, place_in, Turns}
use Rattle.ion_text_in.proofs.FeedItems.{closed-cost, turns-closed}
use Rattle.ion_text_in.proofs.FeedLanes.{turns-none}
use Rattle.ion_text_in.proofs.ReaderSteps.{closed-opened}
use Rattle.ion_text_in.proofs.feed.close.close.Goals as goal

pub returns-in_default : goal.returns-in_default
returns-in_default g c = turns-none c.requires.can

pub returns-then-not-is_same : goal.returns-then-not-is_same
returns-then-not-is_same g c = turns-none c.requires.can

pub returns-then-not-take_plain : goal.returns-then-not-take_plain
returns-then-not-take_plain g c = let d = c.take_plain.ensures.declines c.if-not-take_plain.true in rw (d.0, d.1, d.2) (turns-none c.requires.can)

pub returns : goal.returns
returns g c =
    let w = g.W.ValueWriter in
    let a = c.args in
    let t = c.take_plain in
    let e = t.ensures in
    let yes = c.if-not-take_plain.false in
    let left = c.pop-closed.new.self in
    let opened = closed-opened a.kinds.now left c.in-Some.inner c.pop-closed.result (sym c.innermost.ensures ∙ c.in-Some.is) c.pop-closed.ensures.items in
    let outer = sym c.innermost-outer.ensures in
    let now : Spot = record a.at.now {
      rest = c.after.result;
      values = a.at.now.values + one_if_closed (reverse left);
      separator = is_separated c.member_kind-at.result;
      kind = c.member_kind-at.result;
    } in
    subst (λ (s : Spot). Turns w a.bounds true (lane a.kinds.now a.at.now a.writer.now a.sink.now a.meter.now) (lane left s t.new.self t.new.sink c.pop-closed.new.meter)) (sym (c.pass_value.ensures (reverse left) outer))
    (turns-closed a.kinds.now left c.in-Some.inner a.kind a.at.now now a.next (place_in a.bounds a.next.rest.now)
    a.writer.now t.new.self a.sink.now t.new.sink a.meter.now t.new.meter c.pop-closed.new.meter c.requires.can c.requires.next c.requires.told.0 c.requires.told.1 opened
    (sym c.is_same.ensures ∙ c.if-not-is_same.false) refl c.after.ensures refl (c.member_kind-at.ensures (reverse left) outer) refl refl
    (record {
      sound = e.sound;
      stands = e.stands yes;
      puts = e.puts yes;
      failed = e.same.0;
      limits = e.same.1;
      most = e.same.2;
      device = e.device.0;
      fault = e.device.1;
      refused = e.counted;
    })
    e.charges (closed-cost a.kinds.now left c.in-Some.inner c.pop-closed.result t.new.meter c.pop-closed.new.meter (sym c.innermost.ensures ∙ c.in-Some.is) c.pop-closed.ensures.items c.pop-closed.ensures.cost))
