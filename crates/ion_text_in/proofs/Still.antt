-- A piece that is whole at a slice's end, and that no more bytes change.
use Rattle.std.proofs.Common.{◌≡◌, ℕ, Bool, true, false, ◌&&◌, ◌||◌, ◌==◌, List, [], ◌∷◌, ◌++◌, refl, sym, subst, ◌∙◌, inl, inr, arith}
use Rattle.std.proofs.lemmas.Bool.{cases_Bool}
use Rattle.std.proofs.lemmas.Bool.Decides.{nat_tests}
use Rattle.ion_value.specs.Name.{begins_with}
use Rattle.ion_text_in.specs.declared.quoted.Quote.{Quote as CodeQuote}
use Rattle.ion_text_in.specs.declared.quoted.Quote.TheVariants as code
use Rattle.ion_text_in.specs.Quoted as quoted
use Rattle.ion_text_in.specs.Quoted.{close, piece_at}
use Rattle.ion_text_in.specs.Quotes.{quote_of, mark_of}
use Rattle.ion_text_in.specs.declared.piece.Piece.{Piece as CodePiece}
use Rattle.ion_text_in.specs.declared.piece.Piece.TheVariants as code_piece
use Rattle.ion_text_in.specs.Pieces.{piece_of, ShowsPiece, may_go_on}
use Rattle.ion_text_in.proofs.Quotes.{quote_of-is}
use Rattle.ion_text_in.proofs.ShownPieces.{IsWhole, escape-kept, piece-kept, piece-shown}

-- ---- by the quotes

one-long : (in_clob : Bool) (a : ℕ) (more : List ℕ) → (a == 39 || a == 13) ≡ false
    → IsWhole (piece_at (quoted.long_quote in_clob) (a ∷ [])) → piece_at (quoted.long_quote in_clob) (a ∷ more) ≡ piece_at (quoted.long_quote in_clob) (a ∷ [])
one-long in_clob a more e =
    let no_mark : (39 == a) ≡ false = grind (arith, nat_tests) in
    let no_cr : (a == 13) ≡ false = grind (arith, nat_tests) in
    piece-kept (quoted.long_quote in_clob) a [] more (rw no_mark refl) (λ _ w. absurd w) (λ _ _. no_cr)

two-long : (in_clob : Bool) (a b : ℕ) (more : List ℕ) → ((a == 39 && b == 39) || (a == 92 && b == 13)) ≡ false
    → IsWhole (piece_at (quoted.long_quote in_clob) (a ∷ b ∷ [])) → piece_at (quoted.long_quote in_clob) (a ∷ b ∷ more) ≡ piece_at (quoted.long_quote in_clob) (a ∷ b ∷ [])
two-long in_clob a b more e =
    piece-kept (quoted.long_quote in_clob) a (b ∷ []) more closer
    (λ is. let no_cr : (b == 13) ≡ false = grind (arith, nat_tests) in escape-kept in_clob b [] more (λ _. no_cr)) (λ _ e. absurd (cc e))
  where
    closer : begins_with (39 ∷ 39 ∷ 39 ∷ []) (a ∷ b ∷ more) ≡ begins_with (39 ∷ 39 ∷ 39 ∷ []) (a ∷ b ∷ [])
    closer = elim (cases_Bool (39 == a)) [
      | inl mark ↦ let no_mark : (39 == b) ≡ false = grind (arith, nat_tests) in rw (mark, no_mark) refl
      | inr no_mark ↦ rw no_mark refl
    ]

one-short : (mark : ℕ) (in_clob : Bool) (a : ℕ) (more : List ℕ)
    → IsWhole (piece_at (record { closer = mark ∷ []; is_long = false; in_clob = in_clob }) (a ∷ [])) → piece_at (record { closer = mark ∷ []; is_long = false; in_clob = in_clob }) (a ∷ more) ≡ piece_at (record { closer = mark ∷ []; is_long = false; in_clob = in_clob }) (a ∷ [])
one-short mark in_clob a more =
    piece-kept (record { closer = mark ∷ []; is_long = false; in_clob = in_clob }) a [] more refl (λ _ w. absurd w) (λ e. absurd (cc e))

two-short : (mark : ℕ) (in_clob : Bool) (a b : ℕ) (more : List ℕ) → (a == 92 && b == 13) ≡ false
    → IsWhole (piece_at (record { closer = mark ∷ []; is_long = false; in_clob = in_clob }) (a ∷ b ∷ [])) → piece_at (record { closer = mark ∷ []; is_long = false; in_clob = in_clob }) (a ∷ b ∷ more) ≡ piece_at (record { closer = mark ∷ []; is_long = false; in_clob = in_clob }) (a ∷ b ∷ [])
two-short mark in_clob a b more e =
    piece-kept (record { closer = mark ∷ []; is_long = false; in_clob = in_clob }) a (b ∷ []) more refl
    (λ is. let no_cr : (b == 13) ≡ false = grind (arith, nat_tests) in escape-kept in_clob b [] more (λ _. no_cr)) (λ e. absurd (cc e))

-- what no more bytes change
pub piece-still : (q : CodeQuote) (bytes more : List ℕ) → may_go_on (quote_of q) bytes ≡ false → IsWhole (piece_at (quote_of q) bytes)
    → piece_at (quote_of q) (bytes ++ more) ≡ piece_at (quote_of q) bytes
unfolding piece_at
piece-still q [] more e w = absurd w
piece-still code.Symbol (a ∷ []) more e w = one-short 39 false a more w
piece-still code.Short (a ∷ []) more e w = one-short 34 false a more w
piece-still code.ShortClob (a ∷ []) more e w = one-short 34 true a more w
piece-still code.Long (a ∷ []) more e w = one-long false a more e w
piece-still code.LongClob (a ∷ []) more e w = one-long true a more e w
piece-still code.Symbol (a ∷ b ∷ []) more e w = two-short 39 false a b more e w
piece-still code.Short (a ∷ b ∷ []) more e w = two-short 34 false a b more e w
piece-still code.ShortClob (a ∷ b ∷ []) more e w = two-short 34 true a b more e w
piece-still code.Long (a ∷ b ∷ []) more e w = two-long false a b more e w
piece-still code.LongClob (a ∷ b ∷ []) more e w = two-long true a b more e w
piece-still q (a ∷ b ∷ c ∷ bytes) more e w = piece-shown (quote_of q) a b c bytes more (quote_of-is q) w

-- a slice that no more bytes change shows the piece at its front
pub shown : (q : CodeQuote) (bytes : List ℕ) (piece : CodePiece) → may_go_on (quote_of q) bytes ≡ false → piece_of piece ≡ piece_at (quote_of q) bytes
    → ShowsPiece (quote_of q) bytes piece
shown q bytes (code_piece.Text m n) still e = λ more. piece-still q bytes more still (subst IsWhole e tt) ∙ sym e
shown q bytes (code_piece.Close n) still e = λ more. piece-still q bytes more still (subst IsWhole e tt) ∙ sym e
shown q bytes code_piece.Illegal still e = λ more. piece-still q bytes more still (subst IsWhole e tt) ∙ sym e
shown q bytes code_piece.Cut still e = tt

-- a quote closes a text that is not long
pub mark-closes : (q : CodeQuote) (rest : List ℕ) → (quote_of q).is_long ≡ false → close 1 ≡ piece_at (quote_of q) (mark_of q ∷ rest)
unfolding piece_at
mark-closes code.Symbol rest e = refl
mark-closes code.Short rest e = refl
mark-closes code.ShortClob rest e = refl
mark-closes code.Long rest e = absurd (cc e)
mark-closes code.LongClob rest e = absurd (cc e)
