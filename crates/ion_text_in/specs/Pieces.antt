-- Pieces of a text as the code has them.
use Rattle.std.specs.Prelude.{◌≡◌, ℕ, ◌+◌, ◌*◌, ◌^◌, ◌<◌, ◌≤◌, Bool, false, ◌&&◌, ◌||◌, ◌==◌, List, [], ◌∷◌, ◌++◌, length, drop, encode_utf8, Some, Ok, Err}
use Rattle.ion_meter.specs.Sources.{Cursor}
use Rattle.ion_meter.specs.declared.fault.Reason.TheVariants.{Truncated, ScalarLimit}
use Rattle.ion_value.specs.Parts.{refuse, ◌>>◌}
use Rattle.ion_text_in.specs.declared.piece.Piece.{Piece as CodePiece}
use Rattle.ion_text_in.specs.declared.piece.Piece.TheVariants as code
use Rattle.ion_text_in.specs.declared.piece.Meant.{Meant}
use Rattle.ion_text_in.specs.declared.piece.Meant.TheVariants as meant
use Rattle.ion_text_in.specs.declared.piece.HexDigits.{HexDigits}
use Rattle.ion_text_in.specs.declared.piece.HexDigits.TheVariants as code_hex
use Rattle.ion_text_in.specs.Quoted as quoted
use Rattle.ion_text_in.specs.Gathered.{onward}
use Rattle.ion_text_in.specs.Limit.{passes}
use Rattle.ion_text_in.specs.Quoted.{Quote, Piece, piece_at, hex_after, bad_text}
use Rattle.ion_text_in.specs.Scanning.{Spelled}

-- the bytes that a piece means
abbrev pub bytes_of : Meant → List ℕ
bytes_of (meant.Char c) = encode_utf8 c
bytes_of (meant.Byte b) = b ∷ []
bytes_of meant.Nothing = []

-- what a piece is
abbrev pub piece_of : CodePiece → Piece
piece_of (code.Text m taken) = quoted.char (bytes_of m) taken
piece_of (code.Close taken) = quoted.close taken
piece_of code.Illegal = quoted.illegal
piece_of code.Cut = quoted.cut

-- so many hex digits at the front of some bytes
abbrev pub HexIs : ℕ → List ℕ → HexDigits → Type 0
HexIs count bytes (code_hex.Number n) = (hex_after count 0 bytes ≡ quoted.number n (drop count bytes)) × (n < 2 ^ (4 * count)) × (count ≤ length bytes)
HexIs count bytes code_hex.NoDigit = hex_after count 0 bytes ≡ quoted.no_digit
HexIs count bytes code_hex.Cut = hex_after count 0 bytes ≡ quoted.cut_digits

-- what a slice shows of the piece at its front, whatever follows it
abbrev pub ShowsPiece : Quote → List ℕ → CodePiece → Type 0
ShowsPiece q bytes code.Cut = Unit {0}
ShowsPiece q bytes piece = (more : List ℕ) → piece_at q (bytes ++ more) ≡ piece_of piece

-- a whole piece of these bytes may be another where more follow: a quote, two of them or a CR in a long text, or a CR after a backslash
abbrev pub may_go_on : Quote → List ℕ → Bool
may_go_on q [] = false
may_go_on q (b ∷ []) = q.is_long && (b == 39 || b == 13)
may_go_on q (b ∷ c ∷ []) = (q.is_long && (b == 39 && c == 39)) || (b == 92 && c == 13)
may_go_on q (b ∷ c ∷ d ∷ bytes) = false

-- how many bytes a piece takes
abbrev pub taken_of : CodePiece → ℕ
taken_of (code.Text m taken) = taken
taken_of (code.Close taken) = taken
taken_of code.Illegal = 0
taken_of code.Cut = 0

-- what is read on after a piece, where so many bytes were read before it
abbrev pub after_piece : Quote → ℕ → List ℕ → Cursor → CodePiece → Spelled
after_piece q limit text c (code.Text m taken) = refuse (passes (Some limit) (length text + length (bytes_of m))) ScalarLimit >> onward q limit (text ++ bytes_of m) c
after_piece q limit text c (code.Close taken) = Ok (text, c)
after_piece q limit text c code.Illegal = Err (bad_text q)
after_piece q limit text c code.Cut = Err Truncated

-- a piece that is passed over takes a byte
abbrev pub Advances : ℕ → ℕ → CodePiece → Type 0
Advances p q (code.Text m taken) = p < q
Advances p q (code.Close taken) = p < q
Advances p q code.Illegal = Unit {0}
Advances p q code.Cut = Unit {0}
