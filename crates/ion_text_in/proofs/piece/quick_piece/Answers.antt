use Rattle.std.proofs.Common.{◌≡◌, ℕ, ◌≤◌, false, ◌==◌, List, [], ◌∷◌, ◌++◌, length, drop, slice_index, refl, sym, ap, ◌∙◌, arith}
use Rattle.std.proofs.lemmas.Bool.{ne_eqb}
use Rattle.std.proofs.lemmas.List.{take_rest}
use Rattle.ion_text_in.specs.declared.quoted.Quote.{Quote as CodeQuote}
use Rattle.ion_text_in.specs.declared.quoted.Quote.TheVariants as code
use Rattle.ion_text_in.specs.Quoted as quoted
use Rattle.ion_text_in.specs.Quoted.{close, piece_at}
use Rattle.ion_text_in.specs.Quotes.{quote_of, mark_of}
use Rattle.ion_text_in.specs.Pieces.{may_go_on}
use Rattle.ion_text_in.proofs.Still.{shown, mark-closes}
use Rattle.ion_text_in.proofs.Taking.{piece-fits}
use Rattle.ion_text_in.proofs.piece.quick_piece.Goals as goal

escapes : (q : CodeQuote) (bytes : List ℕ) → piece_at (quote_of q) (92 ∷ bytes) ≡ quoted.escape (quote_of q).in_clob bytes
unfolding piece_at
escapes code.Symbol bytes = refl
escapes code.Short bytes = refl
escapes code.ShortClob bytes = refl
escapes code.Long bytes = refl
escapes code.LongClob bytes = refl

no-end : (q : CodeQuote) (e : ℕ) → (e == 13) ≡ false → may_go_on (quote_of q) (92 ∷ e ∷ []) ≡ false
no-end code.Symbol e other = other
no-end code.Short e other = other
no-end code.ShortClob e other = other
no-end code.Long e other = other
no-end code.LongClob e other = other

-- an escape that no CR ends: it is the piece there, and no more bytes change it
quick : (q : CodeQuote) (bytes : List ℕ) → 2 ≤ length bytes → slice_index bytes 0 ≡ 92 → (slice_index bytes 1 ≡ 13 → ⊥)
    → (quoted.escape (quote_of q).in_clob (drop 1 bytes) ≡ piece_at (quote_of q) bytes) × (may_go_on (quote_of q) bytes ≡ false)
quick q [] there first other = absurd (omega (arith, there))
quick q (a ∷ []) there first other = absurd (omega (arith, there))
quick q (a ∷ e ∷ []) there first other =
    (rw first (sym (escapes q (e ∷ []))), ap (λ (b : ℕ). may_go_on (quote_of q) (b ∷ e ∷ [])) first ∙ no-end q e (ne_eqb e 13 other))
quick q (a ∷ e ∷ d ∷ bytes) there first other = (rw first (sym (escapes q (e ∷ d ∷ bytes))), refl)

no-zero : (q : CodeQuote) → 0 ≡ mark_of q → ⊥
no-zero code.Symbol e = omega (arith, e)
no-zero code.Short e = omega (arith, e)
no-zero code.ShortClob e = omega (arith, e)
no-zero code.Long e = omega (arith, e)
no-zero code.LongClob e = omega (arith, e)

shows-mark : (q : CodeQuote) (bytes more : List ℕ) → slice_index bytes 0 ≡ mark_of q → (quote_of q).is_long ≡ false → piece_at (quote_of q) (bytes ++ more) ≡ close 1
shows-mark q [] more first short = absurd (no-zero q first)
shows-mark q (a ∷ bytes) more first short = ap (λ (b : ℕ). piece_at (quote_of q) (b ∷ (bytes ++ more))) first ∙ sym (mark-closes q (bytes ++ more) short)

pub returns-in-92-clause-shows : goal.returns-in-92-clause-shows
returns-in-92-clause-shows c =
    let there = quick c.args.quote c.args.bytes.now c.in-92.len_at_least (omega arith) c.if-byte-ne13.true in
    shown c.args.quote c.args.bytes.now c.escape.result there.1 (rw (take_rest c.args.bytes.now 1, c.in_clob.ensures) at c.escape.ensures ∙ there.0)

pub returns-in-92-clause-takes : goal.returns-in-92-clause-takes
returns-in-92-clause-takes c =
    let there = quick c.args.quote c.args.bytes.now c.in-92.len_at_least (omega arith) c.if-byte-ne13.true in
    piece-fits c.args.quote c.args.bytes.now c.escape.result (rw (take_rest c.args.bytes.now 1, c.in_clob.ensures) at c.escape.ensures ∙ there.0)

pub returns-in-len1-up-clause-shows : goal.returns-in-len1-up-clause-shows
returns-in-len1-up-clause-shows c = λ more.
    shows-mark c.args.quote c.args.bytes.now more (c.if-byte-mark.true ∙ c.mark.ensures) (sym c.is_long.ensures ∙ c.if-not-is_long.true)
