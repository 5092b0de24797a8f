use Rattle.std.proofs.Common.{◌≡◌, ℕ, Option, Some, Ok, Err, true, false, List, [], ◌∷◌, ap, sym, ◌∙◌, arith}
use Rattle.std.proofs.lemmas.Grind.{common_steps}
use Rattle.ion_meter.specs.declared.fault.Reason.{Reason}
use Rattle.ion_meter.specs.Sources.{Cursor, cursor, skip}
use Rattle.ion_value.specs.Name.{begins_with}
use Rattle.ion_value.specs.Value.{SymbolAt}
use Rattle.ion_value.proofs.Cursors.{cursor-extends}
use Rattle.ion_text_in.specs.Gathered.{passed}
use Rattle.ion_text_in.specs.Lob.{are_cut_quotes, closed_at, lob_in}
use Rattle.ion_text_in.specs.Overrun.{overrun}
use Rattle.ion_text_in.specs.Quoted.{long_quote, text_at}
use Rattle.ion_text_in.proofs.Gathering.{continues-err}
use Rattle.ion_text_in.proofs.Holding.{handed-on}
use Rattle.ion_text_in.proofs.lob.next_opened.Goals as goal

not-double : (bytes : List ℕ) → begins_with (39 ∷ 39 ∷ 39 ∷ []) bytes ≡ true → begins_with (34 ∷ []) bytes ≡ false
not-double [] e = absurd (cc e)
not-double (b ∷ bytes) e = grind (arith, common_steps)

-- after the text of a long clob its braces are refused
braces-refused : (limit : Option ℕ) (c d x : Cursor) (text : List ℕ) (start : Option ℕ) (e : Reason) → begins_with (39 ∷ 39 ∷ 39 ∷ []) c.rest ≡ true → text_at (long_quote true) limit (skip 3 c) ≡ Ok (text, d)
    → passed true d ≡ overrun start x → false ≡ are_cut_quotes x.rest → closed_at x ≡ Err e → lob_in {S = SymbolAt} limit c ≡ Err e
braces-refused limit c d x text start e quotes read after whole closed = let short = not-double c.rest quotes in grind (arith, common_steps)

pub returns-in_err-pass_braces-2-clause-gives : goal.returns-in_err-pass_braces-2-clause-gives
returns-in_err-pass_braces-2-clause-gives g c = λ h.
    let p = c.peek.new.self in
    let hp = c.in_ok-peek.ensures.kept.still_observable.1 h in
    let quotes = c.in_ok-pass_quotes.ensures.some hp (ap Ok c.if-branch.true) in
    let hq = c.in_ok-pass_quotes.ensures.reads.moves.still_observable.1 hp in
    let t = c.in_ok-next_long_text.ensures.gives hq in
    let ht = c.in_ok-next_long_text.ensures.gathers.reads.moves.still_observable.1 hq in
    let limit = Some c.args.limits.scalar in
    let x = cursor g.I.Input c.next_long_text.new.source in
    let whole : false ≡ are_cut_quotes x.rest = sym c.if-branch-2.false ∙ c.in_ok-are_cut_quotes.ensures.gives ht in
    let f = c.in_err-pass_braces-2.field-0.0 in
    rw (handed-on c.from_residual-in_err-pass_braces-2.result f c.from_residual-in_err-pass_braces-2.ensures) (continues-err _ _ f c.args.place
    (λ e k. ap (λ (d : Cursor). lob_in limit d) (sym (cursor-extends g.I.Input c.args.source.now p c.in_ok-peek.ensures.kept h))
    ∙ braces-refused limit (cursor g.I.Input p) t.0 x c.next_long_text.new.text c.in_ok-next_long_text.field-0 e quotes.0
    (ap (λ (d : Cursor). text_at (long_quote true) limit d) (sym quotes.1) ∙ t.1) t.2 whole (ap closed_at (sym (c.in_ok-are_cut_quotes.ensures.still ht)) ∙ k))
    (c.in_err-pass_braces-2.ensures.gives (c.in_ok-are_cut_quotes.ensures.reads.moves.still_observable.1 ht)))
