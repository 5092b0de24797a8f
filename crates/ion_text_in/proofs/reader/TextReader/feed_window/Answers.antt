use Rattle.std.proofs.Common.{◌≡◌, ◌∙◌, ◌+◌, ◌-◌, List, ℕ, length, reverse, refl, sym, ap, subst, arith}
use Rattle.std.proofs.lemmas.Grind.{common_steps}
use Rattle.ion_value.specs.declared.ion_type.Kind.{Kind}
use Rattle.ion_text_in.specs.declared.expected.Expected.{Expected}
use Rattle.ion_text_in.specs.declared.feed.spot.Spot.{Spot}
use Rattle.ion_text_in.specs.Expecting.{expected_in}
use Rattle.ion_text_in.specs.Feeding.{bounds_of, lane, reader_lane, window_end, CanFeed, Lane, MovedBy}
use Rattle.ion_meter.specs.Windows.{lent, IsPassed}
use Rattle.ion_text_in.proofs.FeedReader.{lane-of, moved-window}
use Rattle.ion_text_in.proofs.reader.TextReader.feed_window.Goals as goal

pub feed_items-last-requires : goal.feed_items-last-requires
feed_items-last-requires g c =
    let w = g.W.ValueWriter in
    let a = c.args in
    let r = a.self.now in
    let bytes = c.buffer-bytes.result in
    let long = ap (λ (l : List ℕ). length l) c.buffer-bytes.ensures in
    let kind = c.member_kind.ensures (reverse r.kinds) (sym c.innermost.ensures) in
    let expected = ap (λ (k : Kind). expected_in c.is_separator.result k) (sym kind) ∙ c.is_separator.ensures (reverse r.kinds) c.requires.can.expects in
    let spot : Spot = record { rest = bytes; top = r.top; values = 0; separator = c.is_separator.result; kind = c.member_kind.result } in
    let here : window_end r.source ≡ c.place.result + length bytes.now = omega (arith, c.place.ensures, long) in
    let start = lane-of r spot 0 a.writer.now a.sink.now a.meter.now c.buffer-bytes.ensures refl refl expected kind in
    subst (λ (e : ℕ). CanFeed w (record { limits = r.limits; end = e }) (lane r.kinds spot a.writer.now a.sink.now a.meter.now)) here
    (subst (λ (l : Lane g.row.W.Denot g.row.O.Denot). CanFeed w (bounds_of r) l) (sym start) c.requires.can)

pub returns-clause-moved : goal.returns-clause-moved
returns-clause-moved g c =
    let w = g.W.ValueWriter in
    let a = c.args in
    let r = a.self.now in
    let f = c.feed_items-last in
    let t = c.consume.new.self in
    let bytes = c.buffer-bytes.result in
    let long = ap (λ (l : List ℕ). length l) c.buffer-bytes.ensures in
    let kind = c.member_kind.ensures (reverse r.kinds) (sym c.innermost.ensures) in
    let expected = ap (λ (k : Kind). expected_in c.is_separator.result k) (sym kind) ∙ c.is_separator.ensures (reverse r.kinds) c.requires.can.expects in
    let spot : Spot = record { rest = bytes; top = r.top; values = 0; separator = c.is_separator.result; kind = c.member_kind.result } in
    let here : c.place.result + length bytes.now ≡ window_end r.source = omega (arith, c.place.ensures, long) in
    let start = lane-of r spot 0 a.writer.now a.sink.now a.meter.now c.buffer-bytes.ensures refl refl expected kind in
    let first = reader_lane r 0 a.writer.now a.sink.now a.meter.now in
    let texts = g.N.Names.text a.names.now in
    let last = lane f.new.kinds f.result f.new.writer f.new.sink f.new.meter in
    let passed = subst (λ (l : List ℕ). IsPassed r.source t (length l - length f.result.rest.now)) c.buffer-bytes.ensures c.consume.ensures in
    let moved : MovedBy w (bounds_of r) texts first last =
    subst (λ (l : Lane g.row.W.Denot g.row.O.Denot). MovedBy w (bounds_of r) texts l last) start
    (subst (λ (e : ℕ). MovedBy w (record { limits = r.limits; end = e }) texts (lane r.kinds spot a.writer.now a.sink.now a.meter.now) last) here f.ensures) in
    subst (λ (k : Kind). MovedBy w (bounds_of r) texts first (record last { rest = lent t; expected = c.expected_in-self.result; kind = k })) (sym moved.kind)
    (subst (λ (e : Expected). MovedBy w (bounds_of r) texts first (record last { rest = lent t; expected = e })) (sym c.expected_in-self.ensures)
    (moved-window w r.source t (bounds_of r) first last c.requires.stands refl moved passed))

pub consume-requires : goal.consume-requires
consume-requires g c = grind (arith, common_steps) steps 400000

pub returns-clause-passed : goal.returns-clause-passed
returns-clause-passed g c = grind (arith, common_steps) steps 400000

pub returns-clause-goes : goal.returns-clause-goes
returns-clause-goes g c = grind (arith, common_steps)

pub overflow_sub-taken : goal.overflow_sub-taken
overflow_sub-taken g c = grind (arith, common_steps) steps 400000

pub returns-clause-same : goal.returns-clause-same
returns-clause-same g c = grind (arith, common_steps)
