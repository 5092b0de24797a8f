use Rattle.std.proofs.Common.{ℕ, List, ap, subst, ◌∙◌, arith}
use Rattle.std.proofs.lemmas.Grind.{common_steps}
use Rattle.ion_text_in.specs.Quoted.{piece_at}
use Rattle.ion_text_in.specs.Quotes.{quote_of}
use Rattle.ion_text_in.specs.Pieces.{piece_of, ShowsPiece}
use Rattle.ion_text_in.specs.Scanning.{PieceTakes}
use Rattle.ion_text_in.proofs.Looking.{piece-left, lent-all}
use Rattle.ion_text_in.proofs.Taking.{piece-fits}
use Rattle.ion_text_in.proofs.text.show_piece.Goals as goal

pub returns-in_default-scan_piece-clause-gives : goal.returns-in_default-scan_piece-clause-gives
returns-in_default-scan_piece-clause-gives g c = λ h.
    let shows = subst (λ (l : List ℕ). ShowsPiece (quote_of c.args.quote) l c.scan_piece.result) c.buffer-bytes.ensures c.scan_piece.ensures.shows in
    piece-left g.I.Input.rest c.more.source (quote_of c.args.quote) c.scan_piece.result c.in_default-scan_piece.not-Cut shows
    ∙ ap (λ (l : List ℕ). piece_at (quote_of c.args.quote) l) (c.more.invariant.kept.same_left h)

pub returns-in_default-2-clause-gives : goal.returns-in_default-2-clause-gives
returns-in_default-2-clause-gives g c = λ h.
    let s = c.more.source in
    let t = c.peek.new.self in
    let seen = c.more.invariant.kept.still_observable.1 h in
    let gives = rw (c.in_default-2.is, c.buffer-bytes.ensures) at (c.in_ok-peek.ensures.gives seen) in
    c.last_piece.ensures
    ∙ ap (λ (l : List ℕ). piece_at (quote_of c.args.quote) l)
    (c.buffer-in_default-2.ensures ∙ lent-all g.I.Input s t c.in_ok-peek.ensures.kept c.in_ok-peek.ensures.well.0 c.in_ok-peek.ensures.well.1 seen gives
    ∙ c.more.invariant.kept.same_left h)

pub returns-in_default-2-clause-takes : goal.returns-in_default-2-clause-takes
returns-in_default-2-clause-takes g c = subst (λ (l : List ℕ). PieceTakes l (piece_of c.last_piece.result)) c.buffer-in_default-2.ensures (piece-fits c.args.quote c.buffer-in_default-2.result.now c.last_piece.result c.last_piece.ensures)

pub more-preserved : goal.more-preserved
more-preserved g c = grind (arith, common_steps)

pub returns-in_default-2-clause-looks : goal.returns-in_default-2-clause-looks
returns-in_default-2-clause-looks g c = grind (arith, common_steps)

pub returns-in_err-peek-clause-looks : goal.returns-in_err-peek-clause-looks
returns-in_err-peek-clause-looks g c = grind (arith, common_steps)

pub more-smaller : goal.more-smaller
more-smaller g c = grind (arith, common_steps)

pub returns-in_default-clause-gives : goal.returns-in_default-clause-gives
returns-in_default-clause-gives g c = λ h.
    let shows = subst (λ (l : List ℕ). ShowsPiece (quote_of c.args.quote) l c.quick_piece.result) c.buffer.ensures c.quick_piece.ensures.shows in
    piece-left g.I.Input.rest c.args.source.now (quote_of c.args.quote) c.quick_piece.result c.in_default.not-Cut shows

pub returns-in_default-clause-looks : goal.returns-in_default-clause-looks
returns-in_default-clause-looks g c = grind (arith, common_steps) steps 400000
