use Rattle.std.proofs.Common.{◌≡◌, ◌∙◌, refl, sym, ap, arith}
use Rattle.std.proofs.lemmas.Grind.{common_steps}
use Rattle.ion_meter.specs.Sources.{Cursor, cursor, skip}
use Rattle.ion_meter.specs.Windows.{lent}
use Rattle.ion_value.proofs.Cursors.{cursor-extends}
use Rattle.ion_value.proofs.Passing.{IsPassed-cursor}
use Rattle.ion_text_in.specs.Quotes.{quote_of}
use Rattle.ion_text_in.specs.Pieces.{after_piece, taken_of}
use Rattle.ion_text_in.proofs.Quotes.{quote_of-is}
use Rattle.ion_text_in.proofs.Gathering.{onward-piece}
use Rattle.ion_text_in.proofs.Taking.{takes-there}
use Rattle.ion_text_in.proofs.Turns.{turn, gone-reads}
use Rattle.ion_text_in.proofs.text.next_piece.Goals as goal

pub returns-clause-gives : goal.returns-clause-gives
returns-clause-gives g c = λ h limit text.
    let s = c.args.source.now in
    let p = c.show_piece.new.source in
    let piece = c.in_ok-piece.piece in
    let same : c.match-piece.piece ≡ piece = grind (arith, common_steps) in
    let took : c.match-piece.taken ≡ taken_of piece = grind (arith, common_steps) in
    let q = quote_of c.args.quote in
    let end = IsPassed-cursor g.I.Input p c.consume.new.self (taken_of piece) (takes-there (lent p) piece c.in_ok-piece.ensures.takes) (rw took at c.consume.ensures)
    ∙ ap (λ (d : Cursor). skip (taken_of piece) d) (cursor-extends g.I.Input s p c.in_ok-piece.ensures.looks.kept h) in
    rw same (onward-piece q limit text (cursor g.I.Input s) piece (quote_of-is c.args.quote) (c.in_ok-piece.ensures.gives h) ∙ ap (λ (d : Cursor). after_piece q limit text d piece) (sym end))

pub consume-requires : goal.consume-requires
consume-requires g c = grind (arith, common_steps)

pub returns-clause-reads : goal.returns-clause-reads
returns-clause-reads g c =
    let s = c.args.source.now in
    let p = c.show_piece.new.source in
    let t = c.consume.new.self in
    let piece = c.in_ok-piece.piece in
    let looks = c.in_ok-piece.ensures.looks in
    let took : c.match-piece.taken ≡ taken_of piece = grind (arith, common_steps) in
    let turned = turn g.I.Input s p t (lent p) (taken_of piece) c.requires.stands looks.kept looks.well.1 (rw c.requires.stands.well at looks.count) refl (takes-there (lent p) piece c.in_ok-piece.ensures.takes)
    (rw took at c.consume.ensures) in
    gone-reads g.I.Input s t turned.gone
