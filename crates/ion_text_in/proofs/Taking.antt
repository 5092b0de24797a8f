-- How many bytes a piece takes of a slice, and how many bytes show it.
use Rattle.std.proofs.Common.{◌≡◌, ℕ, ◌<◌, ◌≤◌, List, length, sym, ap, subst, ◌∙◌, arith}
use Rattle.ion_text_in.specs.declared.quoted.Quote.{Quote as CodeQuote}
use Rattle.ion_text_in.specs.declared.piece.Piece.{Piece as CodePiece}
use Rattle.ion_text_in.specs.declared.piece.Piece.TheVariants as code
use Rattle.ion_text_in.specs.Quoted.{piece_at}
use Rattle.ion_text_in.specs.Scanning.{PieceTakes}
use Rattle.ion_text_in.specs.Quotes.{quote_of}
use Rattle.ion_text_in.specs.Pieces.{piece_of, taken_of}
use Rattle.ion_text_in.proofs.Quotes.{quote_of-is}
use Rattle.ion_text_in.proofs.ShownPieces.{IsWhole, piece-whole}
use Rattle.ion_text_in.proofs.Fuel.{piece-takes}

pub takes-there : (bytes : List ℕ) (piece : CodePiece) → PieceTakes bytes (piece_of piece) → taken_of piece ≤ length bytes
takes-there bytes (code.Text m n) t = t.there
takes-there bytes (code.Close n) t = t.there
takes-there bytes code.Illegal t = omega arith
takes-there bytes code.Cut t = omega arith

pub piece-fits : (q : CodeQuote) (bytes : List ℕ) (piece : CodePiece) → piece_of piece ≡ piece_at (quote_of q) bytes → PieceTakes bytes (piece_of piece)
piece-fits q bytes piece e = subst (PieceTakes bytes) (sym e) (piece-takes (quote_of q) bytes (quote_of-is q))

pub cut-short : (q : CodeQuote) (bytes : List ℕ) (piece : CodePiece) → piece_of piece ≡ piece_at (quote_of q) bytes → piece ≡ code.Cut → length bytes < 12
cut-short q bytes piece e cut = grind (arith, few)
  where
    few : 12 ≤ length bytes → ⊥
    few le = subst IsWhole (sym e ∙ ap piece_of cut) (piece-whole (quote_of q) bytes le)
