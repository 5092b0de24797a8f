use Rattle.std.proofs.Common.{◌≡◌, ◌∙◌, ◌||◌, Bool, true, false, length, drop, refl, sym}
use Rattle.std.specs.Str.{is_utf8}
use Rattle.ion_meter.specs.declared.fault.Reason.TheVariants.{BadText}
use Rattle.ion_meter.specs.Sources.{cursor}
use Rattle.ion_text_in.specs.Quotes.{quote_of}
use Rattle.ion_text_in.proofs.Segments.{segment-err, segment-bad, segment-good}
use Rattle.ion_text_in.proofs.Utf8.{is_utf8-after}
use Rattle.ion_text_in.proofs.Gathering.{continues-err}
use Rattle.ion_text_in.proofs.GatherCalls.{gathers-refused}
use Rattle.ion_text_in.proofs.text.next_segment.Goals.{else-not-in_clob-via-then-not-in_clob+else-not-is_text, else-not-in_clob-via-else-not-in_clob}
use Rattle.ion_text_in.proofs.Holding.{handed-on}
use Rattle.ion_text_in.proofs.text.next_segment.Goals as goal

either : (a b : Bool) → b ≡ true → (a || b) ≡ true
either true b e = refl
either false b e = e

pub returns-in_err-gather_pieces-clause-gives : goal.returns-in_err-gather_pieces-clause-gives
returns-in_err-gather_pieces-clause-gives g c = λ h.
    let q = quote_of c.args.quote in
    let from = cursor g.I.Input c.args.source.now in
    rw (handed-on c.from_residual.result c.in_err-gather_pieces.field-0.0 c.from_residual.ensures) (continues-err _ _ c.in_err-gather_pieces.field-0.0 c.args.place
    (λ e k. segment-err q c.args.limits.scalar c.args.text.now from e k) (c.in_err-gather_pieces.ensures.gives h))

pub slice_bounds-is_text-count : goal.slice_bounds-is_text-count
slice_bounds-is_text-count g c =
    let longer = c.in_ok-gather_pieces.ensures.longer in
    rw (c.as_slice-start.ensures, c.as_slice.ensures) longer

pub returns-then-not-is_text-clause-gives : goal.returns-then-not-is_text-clause-gives
returns-then-not-is_text-clause-gives g c = λ h.
    let q = quote_of c.args.quote in
    let all = c.gather_pieces.new.text in
    let test = is_utf8-after c.args.text.now all c.as_slice-start.result.now c.as_slice.result.now c.is_text.result c.as_slice-start.ensures c.as_slice.ensures c.is_text.ensures in
    let clob : q.in_clob ≡ false = sym c.in_clob.ensures ∙ c.if-not-in_clob.true in
    let none : (q.in_clob || is_utf8 (drop (length c.args.text.now) all)) ≡ false = rw (clob, ← test) c.if-not-is_text.true in
    (segment-bad q c.args.limits.scalar c.args.text.now all (cursor g.I.Input c.args.source.now) (cursor g.I.Input c.gather_pieces.new.source) (c.in_ok-gather_pieces.ensures.gives h) none, refl)

pub returns-clause-gives : goal.returns-clause-gives
returns-clause-gives g c = λ h.
    let q = quote_of c.args.quote in
    let all = c.gather_pieces.new.text in
    segment-good q c.args.limits.scalar c.args.text.now all (cursor g.I.Input c.args.source.now) (cursor g.I.Input c.gather_pieces.new.source) (c.in_ok-gather_pieces.ensures.gives h)
    (elim c.else-not-in_clob.branch [
      | else-not-in_clob-via-then-not-in_clob+else-not-is_text w ↦
          let test = is_utf8-after c.args.text.now all c.as_slice-start.result.now w.as_slice.result.now w.is_text.result c.as_slice-start.ensures w.as_slice.ensures w.is_text.ensures in
          let yes : is_utf8 (drop (length c.args.text.now) all) ≡ true = sym test ∙ w.if-not-is_text.false in
          either q.in_clob (is_utf8 (drop (length c.args.text.now) all)) yes
      | else-not-in_clob-via-else-not-in_clob w ↦
          let clob : q.in_clob ≡ true = sym c.in_clob.ensures ∙ w.if-not-in_clob.false in
          rw clob refl
    ])

pub returns-then-not-is_text-clause-gathers : goal.returns-then-not-is_text-clause-gathers
returns-then-not-is_text-clause-gathers g c =
    gathers-refused g.I.Input c.args.limits c.args.source.now c.gather_pieces.new.source c.args.meter.now c.gather_pieces.new.meter c.args.text.now c.gather_pieces.new.text c.in_ok-gather_pieces.field-0 BadText
    c.args.place c.in_ok-gather_pieces.ensures.gathers
