-- Each part of a text takes a byte, and gives no more bytes than it takes.
use Rattle.std.proofs.Common.{◌≡◌, ℕ, zero, suc, ◌+◌, ◌*◌, ◌/◌, ◌<◌, ◌≤◌, Bool, true, false, not, ◌&&◌, ◌||◌, ◌==◌, nat_le, nat_lt, if◌then◌else◌, List, [], ◌∷◌, ◌++◌, length, drop, codes, slice_index, encode_utf8, Option, Some, None, Result, Ok, Err, refl, subst, arith}
use Rattle.std.proofs.lemmas.Bool.{ltb-false, and_parts, false≢true}
use Rattle.std.proofs.lemmas.List.{length-append, length-drop, length-take}
use Rattle.std.proofs.lemmas.Str.{length-encode, len_utf8_bounds}
use Rattle.std.specs.Result.{IfOk, result_ok}
use Rattle.std.specs.Str.{bytes_eq, is_utf8}
use Rattle.base64.specs.Engines.{standard}
use Rattle.base64.specs.GeneralPurpose.{decoded_of}
use Rattle.base64.specs.Decode.{groups_bytes, decoded_bytes, suffix_bytes, scan_bytes, scan_last, decode_group, decode_outcome}
use Rattle.base64.specs.declared.decode.DecodeError.{DecodeError}
use Rattle.ion_meter.specs.declared.fault.Reason.{Reason}
use Rattle.ion_meter.specs.declared.fault.Reason.TheVariants.{Truncated, BadText, BadLob, ScalarLimit}
use Rattle.ion_meter.specs.Sources.{Cursor, skip}
use Rattle.ion_value.specs.Digits.{is_hex_digit, digit_value, is_between, first_is}
use Rattle.ion_value.specs.Name.{Keyword, a_null, begins_with, is_id, id_of, keyword}
use Rattle.ion_value.specs.Parts.{Placed, refuse, ◌>>=◌, ◌>>◌}
use Rattle.ion_value.specs.Scalar.{scalar_of_run}
use Rattle.ion_value.specs.Value as value
use Rattle.ion_value.specs.Value.{Symbol, SymbolAt, Scalar}
use Rattle.ion_value.proofs.Faults.{Free, free}
use Rattle.ion_text_in.specs.Places.{run_of, after_run}
use Rattle.ion_text_in.specs.Limit.{passes}
use Rattle.ion_text_in.specs.Meaning.{counts}
use Rattle.ion_text_in.specs.Blanks as blanks
use Rattle.ion_text_in.specs.Blanks.{Begins, white, line_comment, block_comment, no_blank, blank_at, is_line_end, ends_block, blanks_at, in_line, opening, in_block, closing}
use Rattle.ion_text_in.specs.Quoted as quoted
use Rattle.ion_text_in.specs.Quoted.{Quote, Piece, char, close, illegal, cut, Hex, number, no_digit, cut_digits, hex_after, piece_at, pieces_for, segment_at, segments_for, text_at}
use Rattle.ion_text_in.specs.Lob as lob
use Rattle.ion_text_in.specs.Lob.{group_of, group_bytes, groups_for, lob_at}
use Rattle.ion_text_in.specs.Scanning.{Takes}
use Rattle.ion_text_in.specs.Token as tokens
use Rattle.ion_text_in.specs.Token.{First, a_word, a_quoted, a_short, a_long, a_run, a_lob, an_operator, an_infinity, two_colons, no_token, Token, plain, name, text, operator, token_of, in_run, in_word, in_operator, bytes_of, word_of, counted, run_token, word_token}
use Rattle.ion_text_in.proofs.RunTokens.{if-scalar}
use Rattle.ion_text_in.proofs.TokenLimits.{CountsAll, run_token-counts, word_token-counts}
use Rattle.ion_value.proofs.WentWell.{any-ok, if-then, if-passed, if-either, if-more, if-both}

-- no more is left at one cursor than at another
abbrev pub NoLonger : Cursor → Cursor → Type 0
NoLonger c d = length d.rest ≤ length c.rest

pub skip-within : (n : ℕ) (c : Cursor) → NoLonger c (skip n c)
skip-within n c = omega (arith, length-drop n c.rest)

-- ---- blanks

-- no blank begins
abbrev pub NoBlank : List ℕ → Type 0
NoBlank [] = Unit {0}
NoBlank (b ∷ bytes) = blank_at b bytes ≡ no_blank

-- no more is left than so many bytes, and no blank begins, or the fault is no limit's
abbrev pub Passed : ℕ → Placed Cursor → Type 0
Passed n (Ok c) = (length c.rest ≤ n) × NoBlank c.rest
Passed n (Err fault) = Free fault.0

passed-more : (n m : ℕ) (o : Placed Cursor) → n ≤ m → Passed n o → Passed m o
passed-more n m (Ok c) le p = (omega (arith, le, p.0), p.1)
passed-more n m (Err fault) le p = p

passed-by : (p b : ℕ) (bytes : List ℕ) (begins : Begins) → blank_at b bytes ≡ begins → Passed (length bytes) (blanks_at (suc p) bytes) → Passed (length bytes) (in_line (suc p) bytes)
    → Passed (length bytes) (opening p (suc p) bytes)
    → Passed (suc (length bytes)) (elim begins [ white ↦ blanks_at (suc p) bytes | line_comment ↦ in_line (suc p) bytes | block_comment ↦ opening p (suc p) bytes | no_blank ↦ blanks.here p (b ∷ bytes) ])
passed-by p b bytes white is w l o = passed-more (length bytes) (suc (length bytes)) (blanks_at (suc p) bytes) (omega arith) w
passed-by p b bytes line_comment is w l o = passed-more (length bytes) (suc (length bytes)) (in_line (suc p) bytes) (omega arith) l
passed-by p b bytes block_comment is w l o = passed-more (length bytes) (suc (length bytes)) (opening p (suc p) bytes) (omega arith) o
passed-by p b bytes no_blank is w l o = (omega arith, is)

passed-either : (n : ℕ) (ends : Bool) (x y : Placed Cursor) → Passed n x → Passed n y → Passed (suc n) (elim ends [ true ↦ x | false ↦ y ])
passed-either n true x y px py = passed-more n (suc n) x (omega arith) px
passed-either n false x y px py = passed-more n (suc n) y (omega arith) py

mutual
  unfolding blanks_at in_line opening in_block closing

  blanks-passed : (p : ℕ) (bytes : List ℕ) → Passed (length bytes) (blanks_at p bytes)
  blanks-passed p [] = (omega arith, tt)
  blanks-passed p (b ∷ bytes) = passed-by p b bytes (blank_at b bytes) refl (blanks-passed (suc p) bytes) (line-passed (suc p) bytes) (opening-passed p (suc p) bytes)

  line-passed : (p : ℕ) (bytes : List ℕ) → Passed (length bytes) (in_line p bytes)
  line-passed p [] = (omega arith, tt)
  line-passed p (b ∷ bytes) = passed-either (length bytes) (is_line_end b) (blanks_at (suc p) bytes) (in_line (suc p) bytes) (blanks-passed (suc p) bytes) (line-passed (suc p) bytes)

  opening-passed : (start p : ℕ) (bytes : List ℕ) → Passed (length bytes) (opening start p bytes)
  opening-passed start p [] = free Truncated refl
  opening-passed start p (b ∷ bytes) = passed-more (length bytes) (suc (length bytes)) (in_block start (suc p) bytes) (omega arith) (block-passed start (suc p) bytes)

  block-passed : (start p : ℕ) (bytes : List ℕ) → Passed (length bytes) (in_block start p bytes)
  block-passed start p [] = free Truncated refl
  block-passed start p (b ∷ bytes) = passed-either (length bytes) (ends_block b bytes) (closing (suc p) bytes) (in_block start (suc p) bytes) (closing-passed (suc p) bytes) (block-passed start (suc p) bytes)

  closing-passed : (p : ℕ) (bytes : List ℕ) → Passed (length bytes) (closing p bytes)
  closing-passed p [] = (omega arith, tt)
  closing-passed p (b ∷ bytes) = passed-more (length bytes) (suc (length bytes)) (blanks_at (suc p) bytes) (omega arith) (blanks-passed (suc p) bytes)

pub blanks-pass : (c : Cursor) → Passed (length c.rest) (blanks.blanks c)
blanks-pass c = blanks-passed c.place c.rest

pub blanks-within : (c b : Cursor) → blanks.blanks c ≡ Ok b → NoLonger c b × NoBlank b.rest
blanks-within c b e = subst (λ o. Passed (length c.rest) o) e (blanks-pass c)

-- ---- pieces

first-some : (test : ℕ → Bool) (bytes : List ℕ) → first_is test bytes ≡ true → 1 ≤ length bytes
first-some test [] is = absurd (false≢true is)
first-some test (b ∷ bytes) is = omega arith

-- an end of a line
record LineEnd (b : ℕ) (bytes : List ℕ) : Type 0 where
  some : 1 ≤ quoted.line_end_length b bytes
  there : quoted.line_end_length b bytes ≤ length (b ∷ bytes)
  few : quoted.line_end_length b bytes ≤ 2

line_end : (b : ℕ) (bytes : List ℕ) → LineEnd b bytes
line_end b bytes =
    let all = by (b == 13 && first_is (λ c. c == 10) bytes) (λ e. first-some (λ c. c == 10) bytes (and_parts (b == 13) (first_is (λ c. c == 10) bytes) e).1) in
    record { some = all.0; there = all.1; few = all.2 }
  where
    by : (two : Bool) → (two ≡ true → 1 ≤ length bytes) → (1 ≤ (if two then 2 else 1)) × ((if two then 2 else 1) ≤ suc (length bytes)) × ((if two then 2 else 1) ≤ 2)
    by true more = let some = more refl in (omega arith, omega (arith, some), omega arith)
    by false more = (omega arith, omega arith, omega arith)

-- so many digits
abbrev pub HexFits : ℕ → List ℕ → Hex → Type 0
HexFits k bytes (number n after) = k + length after ≤ length bytes
HexFits k bytes no_digit = Unit {0}
HexFits k bytes cut_digits = Unit {0}

hex-either : (k b : ℕ) (bytes : List ℕ) (is : Bool) (h : Hex) → HexFits k bytes h → HexFits (suc k) (b ∷ bytes) (elim is [ true ↦ h | false ↦ no_digit ])
hex-either k b bytes true (number n after) fits = omega (arith, fits)
hex-either k b bytes true no_digit fits = tt
hex-either k b bytes true cut_digits fits = tt
hex-either k b bytes false h fits = tt

pub hex-fits : (k n : ℕ) (bytes : List ℕ) → HexFits k bytes (hex_after k n bytes)
unfolding hex_after
hex-fits zero n bytes = omega arith
hex-fits (suc k) n [] = tt
hex-fits (suc k) n (b ∷ bytes) =
    hex-either k b bytes (is_hex_digit b) (hex_after k (16 * n + digit_value b) bytes) (hex-fits k (16 * n + digit_value b) bytes)

module _ (q : Quote) where
  -- a character takes a byte or more, of those that there are, and gives no more; else the quotes close the text
  abbrev pub PieceIs : List ℕ → Piece → Type 0
  PieceIs rest (char bytes taken) = Takes rest taken × (length bytes ≤ taken)
  PieceIs rest (close taken) = (begins_with q.closer rest ≡ true) × (taken ≡ length q.closer)
  PieceIs rest piece = Unit {0}

  if-is : (rest : List ℕ) (b : Bool) (x y : Piece) → PieceIs rest x → PieceIs rest y → PieceIs rest (if b then x else y)
  if-is rest true x y hx hy = hx
  if-is rest false x y hx hy = hy

  so-many : (rest bytes : List ℕ) (taken : ℕ) → length bytes ≤ taken → 1 ≤ taken → taken ≤ length rest → taken ≤ 12 → PieceIs rest (char bytes taken)
  so-many rest bytes taken given some there few = (record { some = some; there = there; few = few }, given)

  -- a character of four bytes at most
  code-is : (rest : List ℕ) (c taken : ℕ) → 4 ≤ taken → taken ≤ length rest → taken ≤ 12 → PieceIs rest (quoted.by_code c taken)
  code-is rest c taken long there few =
      if-is rest (nat_le c 0x10FFFF && not (is_between 0xD800 0xDFFF c)) (char (encode_utf8 c) taken) illegal
      (let bounds = len_utf8_bounds c in so-many rest (encode_utf8 c) taken (omega (arith, long, length-encode c, bounds.1)) (omega (arith, long)) there few) tt

  low-is : (rest bytes : List ℕ) (high : ℕ) → 8 + length bytes ≤ length rest → (h : Hex) → HexFits 4 bytes h → PieceIs rest (quoted.low_half high h)
  low-is rest bytes high le (number low after) fits =
      if-is rest (quoted.is_low_surrogate low) (quoted.by_code (quoted.pair high low) 12) illegal (code-is rest (quoted.pair high low) 12 (omega arith) (omega (arith, le, fits)) (omega arith)) tt
  low-is rest bytes high le no_digit fits = tt
  low-is rest bytes high le cut_digits fits = tt

  after-is : (rest : List ℕ) (high : ℕ) (after : List ℕ) → 6 + length after ≤ length rest → PieceIs rest (quoted.low_after high after)
  after-is rest high [] le = tt
  after-is rest high (b ∷ []) le = if-is rest (b == 92) cut illegal tt tt
  after-is rest high (b ∷ c ∷ bytes) le =
      if-is rest (b == 92 && c == 117) (quoted.low_half high (hex_after 4 0 bytes)) illegal (low-is rest bytes high (omega (arith, le)) (hex_after 4 0 bytes) (hex-fits 4 0 bytes)) tt

  byte-is : (rest bytes : List ℕ) (in_clob : Bool) → 2 + length bytes ≤ length rest → (h : Hex) → HexFits 2 bytes h → PieceIs rest (quoted.byte_code in_clob h)
  byte-is rest bytes true le (number n after) fits = so-many rest (n ∷ []) 4 (omega arith) (omega arith) (omega (arith, le, fits)) (omega arith)
  byte-is rest bytes false le (number n after) fits = code-is rest n 4 (omega arith) (omega (arith, le, fits)) (omega arith)
  byte-is rest bytes in_clob le no_digit fits = tt
  byte-is rest bytes in_clob le cut_digits fits = tt

  short_code-is : (rest bytes : List ℕ) → 2 + length bytes ≤ length rest → (h : Hex) → HexFits 4 bytes h → PieceIs rest (quoted.short_code h)
  short_code-is rest bytes le (number n after) fits =
      if-is rest (quoted.is_high_surrogate n) (quoted.low_after n after) (quoted.by_code n 6) (after-is rest n after (omega (arith, le, fits)))
      (code-is rest n 6 (omega arith) (omega (arith, le, fits)) (omega arith))
  short_code-is rest bytes le no_digit fits = tt
  short_code-is rest bytes le cut_digits fits = tt

  long_code-is : (rest bytes : List ℕ) → 2 + length bytes ≤ length rest → (h : Hex) → HexFits 8 bytes h → PieceIs rest (quoted.long_code h)
  long_code-is rest bytes le (number n after) fits = code-is rest n 10 (omega arith) (omega (arith, le, fits)) (omega arith)
  long_code-is rest bytes le no_digit fits = tt
  long_code-is rest bytes le cut_digits fits = tt

  coded-is : (b e : ℕ) (bytes : List ℕ) (in_clob : Bool) → PieceIs (b ∷ e ∷ bytes) (quoted.coded in_clob e bytes)
  coded-is b e bytes in_clob =
      let rest : List ℕ = b ∷ e ∷ bytes in
      if-is rest (e == 120) (quoted.byte_code in_clob (hex_after 2 0 bytes)) _ (byte-is rest bytes in_clob (omega arith) (hex_after 2 0 bytes) (hex-fits 2 0 bytes))
      (if-is rest in_clob illegal _ tt
      (if-is rest (e == 117) (quoted.short_code (hex_after 4 0 bytes)) _ (short_code-is rest bytes (omega arith) (hex_after 4 0 bytes) (hex-fits 4 0 bytes))
      (if-is rest (e == 85) (quoted.long_code (hex_after 8 0 bytes)) illegal (long_code-is rest bytes (omega arith) (hex_after 8 0 bytes) (hex-fits 8 0 bytes)) tt)))

  letter-is : (b e : ℕ) (bytes : List ℕ) (in_clob : Bool) (o : Option ℕ) → PieceIs (b ∷ e ∷ bytes) (quoted.by_letter o in_clob e bytes)
  letter-is b e bytes in_clob (Some c) = so-many (b ∷ e ∷ bytes) (c ∷ []) 2 (omega arith) (omega arith) (omega arith) (omega arith)
  letter-is b e bytes in_clob None = coded-is b e bytes in_clob

  escape-is : (b : ℕ) (in_clob : Bool) (bytes : List ℕ) → PieceIs (b ∷ bytes) (quoted.escape in_clob bytes)
  escape-is b in_clob [] = tt
  escape-is b in_clob (e ∷ bytes) =
      let end = line_end e bytes in
      if-is (b ∷ e ∷ bytes) (e == 10 || e == 13) (char [] (1 + quoted.line_end_length e bytes)) (quoted.by_letter (quoted.letter e) in_clob e bytes)
      (so-many (b ∷ e ∷ bytes) [] (1 + quoted.line_end_length e bytes) (omega arith) (omega arith) (omega (arith, end.there)) (omega (arith, end.few))) (letter-is b e bytes in_clob (quoted.letter e))

  raw-is : (b : ℕ) (bytes : List ℕ) → PieceIs (b ∷ bytes) (quoted.raw q b bytes)
  raw-is b bytes =
      let end = line_end b bytes in
      if-is (b ∷ bytes) (q.is_long && (b == 10 || b == 13)) (char (10 ∷ []) (quoted.line_end_length b bytes)) _
      (so-many (b ∷ bytes) (10 ∷ []) (quoted.line_end_length b bytes) (omega (arith, end.some)) end.some end.there (omega (arith, end.few)))
      (if-is (b ∷ bytes) (quoted.is_raw q b) (char (b ∷ []) 1) illegal (so-many (b ∷ bytes) (b ∷ []) 1 (omega arith) (omega arith) (omega arith) (omega arith)) tt)

  pub piece-is : (rest : List ℕ) → PieceIs rest (piece_at q rest)
  unfolding piece_at
  piece-is [] = tt
  piece-is (b ∷ bytes) = by (begins_with q.closer (b ∷ bytes)) refl
    where
      by : (closes : Bool) → begins_with q.closer (b ∷ bytes) ≡ closes
          → PieceIs (b ∷ bytes) (if closes then close (length q.closer) else (if b == 92 then quoted.escape q.in_clob bytes else quoted.raw q b bytes))
      by true e = (e, refl)
      by false e = if-is (b ∷ bytes) (b == 92) (quoted.escape q.in_clob bytes) (quoted.raw q b bytes) (escape-is b q.in_clob bytes) (raw-is b bytes)

-- ---- texts

abbrev pub WithinIf : Cursor → Option Cursor → Type 0
WithinIf c (Some d) = NoLonger c d
WithinIf c None = Unit {0}

in_next-within : (q : Quote) (c : Cursor) (o : Option Cursor) → WithinIf c o → WithinIf c (quoted.in_next q o)
in_next-within q c None w = tt
in_next-within q c (Some d) w = from (begins_with q.closer d.rest)
  where
    from : (b : Bool) → WithinIf c (if b then Some (skip (length q.closer) d) else None)
    from true = let le = skip-within (length q.closer) d in omega (arith, w, le)
    from false = tt

pub between-within : (in_clob : Bool) (c : Cursor) → WithinIf c (quoted.between in_clob c)
between-within true c = skip-within (length (run_of (first_is blanks.is_white) c.rest).0) c
between-within false c = by (blanks.blanks c) (blanks-pass c)
  where
    by : (o : Placed Cursor) → Passed (length c.rest) o → WithinIf c (quoted.where_read o)
    by (Ok b) passed = passed.0
    by (Err fault) passed = tt

next-within : (q : Quote) (c : Cursor) (is_long : Bool) → WithinIf c (if is_long then quoted.in_next q (quoted.between q.in_clob c) else None)
next-within q c true = in_next-within q c (quoted.between q.in_clob c) (between-within q.in_clob c)
next-within q c false = tt

-- no more bytes are given than are taken, and something holds of them
abbrev pub SizedAt : (List ℕ → Type 0) → Cursor → List ℕ × Cursor → Type 0
SizedAt P c x = (length x.0 + length x.1.rest ≤ length c.rest) × P x.0

abbrev pub Sized : (List ℕ → Type 0) → Cursor → Result (List ℕ × Cursor) Reason → Type 0
Sized P c o = IfOk o (SizedAt P c)

-- it holds of no bytes, and of some after others
pub record Joins (P : List ℕ → Type 0) : Type 0 where
  pub none : P []
  pub join : (xs ys : List ℕ) → P xs → P ys → P (xs ++ ys)

-- it holds of the bytes of a character
abbrev pub PieceHas : (List ℕ → Type 0) → Piece → Type 0
PieceHas P (char bytes taken) = P bytes
PieceHas P piece = Unit {0}

module _ (P : List ℕ → Type 0) (joins : Joins P) (limit : Option ℕ) where
  after-sized : (c d : Cursor) (bytes : List ℕ) (o : Result (List ℕ × Cursor) Reason) → length bytes + length d.rest ≤ length c.rest → P bytes → Sized P d o
      → Sized P c (o >>= (λ others. Ok (bytes ++ others.0, others.1)))
  after-sized c d bytes (Ok x) le p s = (omega (arith, le, s.0, length-append bytes x.0), joins.join bytes x.0 p s.1)
  after-sized c d bytes (Err reason) le p s = tt

  -- bytes that are counted, and others after them
  sized-append : (c d : Cursor) (bytes : List ℕ) (count : ℕ) (o : Result (List ℕ × Cursor) Reason) → length bytes + length d.rest ≤ length c.rest → P bytes → Sized P d o
      → Sized P c (refuse (passes limit (count + length bytes)) ScalarLimit >> (o >>= (λ others. Ok (bytes ++ others.0, others.1))))
  sized-append c d bytes count o le p s = if-passed (SizedAt P c) (passes limit (count + length bytes)) ScalarLimit _ (λ _. after-sized c d bytes o le p s)

  with_piece-sized : (later : ℕ → Cursor → Result (List ℕ × Cursor) Reason) (q : Quote) (count : ℕ) (c : Cursor) (piece : Piece) → PieceIs q c.rest piece → PieceHas P piece
      → ((n : ℕ) (d : Cursor) → Sized P d (later n d)) → Sized P c (quoted.with_piece later q limit count c piece)
  with_piece-sized later q count c (char bytes taken) is p more =
      sized-append c (skip taken c) bytes count (later (count + length bytes) (skip taken c)) (omega (arith, is.0.there, is.1, length-drop taken c.rest)) p (more (count + length bytes) (skip taken c))
  with_piece-sized later q count c (close taken) is p more = (omega (arith, length-drop taken c.rest), joins.none)
  with_piece-sized later q count c piece is p more = tt

  pub pieces-sized : (q : Quote) → ((rest : List ℕ) → PieceHas P (piece_at q rest)) → (most count : ℕ) (c : Cursor) → Sized P c (pieces_for most q limit count c)
  unfolding pieces_for
  pieces-sized q each zero count c = tt
  pieces-sized q each (suc most) count c =
      with_piece-sized (λ n d. pieces_for most q limit n d) q count c (piece_at q c.rest) (piece-is q c.rest) (each c.rest) (λ n d. pieces-sized q each most n d)

  pub segment-sized : (q : Quote) → ((rest : List ℕ) → PieceHas P (piece_at q rest)) → (count : ℕ) (c : Cursor) → Sized P c (segment_at q limit count c)
  unfolding segment_at
  segment-sized q each count c =
      if-then (SizedAt P c) _ (pieces_for (suc (length c.rest)) q limit count c) _ (pieces-sized q each (suc (length c.rest)) count c)
      (λ x s. if-passed _ (not (q.in_clob || is_utf8 x.0)) BadText (Ok x) (λ _. s))

  with_segments-sized : (later : Cursor → Result (List ℕ × Cursor) Reason) (c : Cursor) (s : List ℕ × Cursor) (o : Option Cursor) → SizedAt P c s → WithinIf s.1 o
      → ((d : Cursor) → Sized P d (later d)) → Sized P c (quoted.with_segments later s o)
  with_segments-sized later c s None le w more = le
  with_segments-sized later c s (Some d) le w more = after-sized c d s.0 (later d) (omega (arith, le.0, w)) le.1 (more d)

  segments-sized : (q : Quote) → ((count : ℕ) (c : Cursor) → Sized P c (segment_at q limit count c)) → (most count : ℕ) (c : Cursor) → Sized P c (segments_for most q limit count c)
  unfolding segments_for
  segments-sized q each zero count c = tt
  segments-sized q each (suc most) count c =
      if-then (SizedAt P c) _ (segment_at q limit count c) _ (each count c)
      (λ s le. with_segments-sized (λ d. segments_for most q limit (count + length s.0) d) c s (quoted.next_segment q s.1) le (next-within q s.1 q.is_long)
      (λ d. segments-sized q each most (count + length s.0) d))

  -- a text is so where each of its segments is
  pub text-sized : (q : Quote) → ((count : ℕ) (c : Cursor) → Sized P c (segment_at q limit count c)) → (c : Cursor) → Sized P c (text_at q limit c)
  text-sized q each c = segments-sized q each (suc (length c.rest)) 0 c

-- whatever the bytes are
abbrev pub Any : List ℕ → Type 0
Any bytes = Unit {0}

any-joins : Joins Any
any-joins = record { none = tt; join = λ xs ys h k. tt }

any-piece : (piece : Piece) → PieceHas Any piece
any-piece (char bytes taken) = tt
any-piece piece = tt

pub any-pieces : (q : Quote) (limit : Option ℕ) (count : ℕ) (c : Cursor) → Sized Any c (pieces_for (suc (length c.rest)) q limit count c)
any-pieces q limit count c = pieces-sized Any any-joins limit q (λ rest. any-piece (piece_at q rest)) (suc (length c.rest)) count c

pub any-segment : (q : Quote) (limit : Option ℕ) (count : ℕ) (c : Cursor) → Sized Any c (segment_at q limit count c)
any-segment q limit count c = segment-sized Any any-joins limit q (λ rest. any-piece (piece_at q rest)) count c

any-text : (q : Quote) (limit : Option ℕ) (c : Cursor) → Sized Any c (text_at q limit c)
any-text q limit c = text-sized Any any-joins limit q (any-segment q limit) c

-- ---- lobs

-- the characters of a group and what stands after it are no more than there are, and the group has so many at most
abbrev GroupIs : ℕ → List ℕ → List ℕ × List ℕ → Type 0
GroupIs n bytes g = (length g.0 + length g.1 ≤ length bytes) × (length g.0 ≤ n)

group-is : (n : ℕ) (bytes : List ℕ) → GroupIs n bytes (group_of n bytes)
unfolding group_of
group-is zero bytes = (omega arith, omega arith)
group-is (suc n) [] = (omega arith, omega arith)
group-is (suc n) (b ∷ bytes) = by (blanks.is_white b) (b == 125) (group_of (suc n) bytes) (group_of n bytes) (group-is (suc n) bytes) (group-is n bytes)
  where
    by : (skips ends : Bool) (x y : List ℕ × List ℕ) → GroupIs (suc n) bytes x → GroupIs n bytes y
        → GroupIs (suc n) (b ∷ bytes) (elim skips [ true ↦ x | false ↦ elim ends [ true ↦ ([], b ∷ bytes) | false ↦ (b ∷ y.0, y.1) ] ])
    by true ends x y gx gy = (omega (arith, gx.0), gx.1)
    by false true x y gx gy = (omega arith, omega arith)
    by false false x y gx gy = (omega (arith, gy.0), omega (arith, gy.1))

pub group-counts : (n : ℕ) (bytes : List ℕ) → length (group_of n bytes).0 + length (group_of n bytes).1 ≤ length bytes
group-counts n bytes = (group-is n bytes).0

-- four characters encode three bytes at most
suffix-most : (dec : List ℕ) (pad at : ℕ) (s : List ℕ) → length (suffix_bytes dec pad at s) ≤ 3
suffix-most dec pad at s = elim (scan_last dec pad at s) as (λ r. length (scan_bytes r) ≤ 3) [
  | Ok st ↦ omega (arith, length-take (st.morsels_count * 6 / 8) (decode_group (slice_index st.morsels 0) (slice_index st.morsels 1) (slice_index st.morsels 2) (slice_index st.morsels 3)))
  | Err e ↦ omega arith
]

decoded-most : (dec : List ℕ) (pad : ℕ) (s : List ℕ) → length s ≡ 4 → length (decoded_bytes dec pad s) ≤ 3
unfolding groups_bytes
decoded-most dec pad s four = rw four (suffix-most dec pad 0 s)

abbrev AtMost3 : Option (List ℕ) → Type 0
AtMost3 (Some bytes) = length bytes ≤ 3
AtMost3 None = Unit {0}

decoded_of-most : (group : List ℕ) → length group ≡ 4 → AtMost3 (decoded_of standard group)
unfolding decoded_of
decoded_of-most group four = from _ _ (decoded-most standard.decode_table standard.padding.value group four)
  where
    from : (o : Option DecodeError) (bytes : List ℕ) → length bytes ≤ 3 → AtMost3 (result_ok (decode_outcome o bytes))
    from None bytes le = le
    from (Some e) bytes le = tt

group_bytes-most : (padded : Bool) (group : List ℕ) → length group ≡ 4 → IfOk (group_bytes padded group) (λ bytes. length bytes ≤ 3)
group_bytes-most padded group four = from (decoded_of standard group) (decoded_of-most group four)
  where
    from : (o : Option (List ℕ)) → AtMost3 o
        → IfOk (elim o as (λ _. Result (List ℕ) Reason) [ Some bytes ↦ if padded then Err BadLob else Ok bytes | None ↦ Err BadLob ]) (λ bytes. length bytes ≤ 3)
    from (Some bytes) most = if-either (λ (bytes : List ℕ). length bytes ≤ 3) padded (Err BadLob) (Ok bytes) tt most
    from None most = tt

closed-within : (c : Cursor) → IfOk (lob.closed_at c) (NoLonger c)
closed-within c = by (lob.braces c.rest)
  where
    by : (o : Result (Unit {0}) Reason) → IfOk (o >> Ok (skip 2 c)) (NoLonger c)
    by (Ok x) = skip-within 2 c
    by (Err reason) = tt

-- a clob or blob, of whose bytes something holds
abbrev pub LobOf : (List ℕ → Type 0) → Scalar SymbolAt → Type 0
LobOf P (value.clob bytes) = P bytes
LobOf P (value.blob bytes) = P bytes
LobOf P body = ⊥

-- it counts no more bytes than are taken
abbrev LobAt : (List ℕ → Type 0) → ℕ → Cursor → Scalar SymbolAt × Cursor → Type 0
LobAt P p c x = (counts (plain x.0) p x.1.place + length x.1.rest ≤ length c.rest) × LobOf P x.0

abbrev clob_quote : Bool → Quote
clob_quote is_long = if is_long then quoted.long_quote true else quoted.short_quote true

module _ (P : List ℕ → Type 0) (joins : Joins P) (limit : Option ℕ) (each_piece : (is_long : Bool) (rest : List ℕ) → PieceHas P (piece_at (clob_quote is_long) rest))
    (each_group : (padded : Bool) (group : List ℕ) → length group ≡ 4 → IfOk (group_bytes padded group) P) where
  last_group-sized : (c d : Cursor) (group : List ℕ) → NoLonger c d → Sized P c (lob.last_group group d)
  last_group-sized c d [] le = if-then (NoLonger d) _ (lob.closed_at d) _ (closed-within d) (λ e less. (omega (arith, le, less), joins.none))
  last_group-sized c d (b ∷ group) le = by (lob.closed_at d)
    where
      by : (o : Result Cursor Reason) → Sized P c (o >> Err BadLob)
      by (Ok e) = tt
      by (Err reason) = tt

  groups-sized : (most count : ℕ) (padded : Bool) (c : Cursor) → Sized P c (groups_for most limit count padded c)
  unfolding groups_for
  groups-sized zero count padded c = tt
  groups-sized (suc most) count padded c =
      let g : List ℕ × List ℕ = group_of 4 c.rest in
      let d : Cursor = lob.after_to c g.1 in
      let all = group-is 4 c.rest in
      chosen-sized (nat_lt (length g.0) 4) _ _ (last_group-sized c d g.0 (omega (arith, all.0)))
      (λ many. let four : length g.0 ≡ 4 = (let up = ltb-false (length g.0) 4 many in omega (arith, up, all.1)) in
      if-then (λ bytes. (length bytes ≤ 3) × P bytes) _ (lob.group_bytes padded g.0) _ (if-both (λ bytes. length bytes ≤ 3) P _ (group_bytes-most padded g.0 four) (each_group padded g.0 four))
      (λ bytes short. sized-append P joins limit c d bytes count (groups_for most limit (count + length bytes) (nat_lt (length bytes) 3) d) (omega (arith, short.0, all.0, four)) short.1
      (groups-sized most (count + length bytes) (nat_lt (length bytes) 3) d)))
    where
      chosen-sized : (few : Bool) (x y : Result (List ℕ × Cursor) Reason) → Sized P c x → (few ≡ false → Sized P c y) → Sized P c (if few then x else y)
      chosen-sized true x y sx sy = sx
      chosen-sized false x y sx sy = sy refl

  clob-is : (p : ℕ) (is_long : Bool) (c : Cursor) → IfOk (lob.clob_at limit is_long c) (LobAt P p c)
  clob-is p is_long c =
      if-then (SizedAt P c) _ (text_at (clob_quote is_long) limit c) _ (text-sized P joins limit (clob_quote is_long) (segment-sized P joins limit (clob_quote is_long) (each_piece is_long)) c)
      (λ t s. let d : Cursor = after_run (first_is blanks.is_white) t.1 in
      let w = skip-within (length (run_of (first_is blanks.is_white) t.1.rest).0) t.1 in
      if-then (NoLonger d) _ (lob.clob_closed_at is_long d) _ (if-passed (NoLonger d) (is_long && lob.are_cut_quotes d.rest) Truncated (lob.closed_at d) (λ _. closed-within d))
      (λ e less. (omega (arith, s.0, w, less), s.1)))

  blob-is : (p : ℕ) (c : Cursor) → IfOk (lob.blob_at limit c) (LobAt P p c)
  blob-is p c =
      if-then (SizedAt P c) _ (groups_for (suc (length c.rest)) limit 0 false c) _ (groups-sized (suc (length c.rest)) 0 false c) (λ b s. (omega (arith, s.0), s.1))

  pub lob-is : (p : ℕ) (c : Cursor) → IfOk (lob_at limit c) (LobAt P p c)
  unfolding lob_at
  lob-is p c =
      let n : ℕ = length (run_of (first_is blanks.is_white) c.rest).0 in
      let d : Cursor = skip n c in
      let w = skip-within n c in
      if-either _ (begins_with (34 ∷ []) d.rest) _ _ (fewer (skip 1 d) (lob.clob_at limit false (skip 1 d)) (let v = skip-within 1 d in omega (arith, w, v)) (clob-is p false (skip 1 d)))
      (if-either _ (begins_with (39 ∷ 39 ∷ 39 ∷ []) d.rest) _ _
      (fewer (skip 3 d) (lob.clob_at limit true (skip 3 d)) (let v = skip-within 3 d in omega (arith, w, v)) (clob-is p true (skip 3 d)))
      (fewer d (lob.blob_at limit d) w (blob-is p d)))
    where
      fewer : (d : Cursor) (o : Result (Scalar SymbolAt × Cursor) Reason) → NoLonger c d → IfOk o (LobAt P p d) → IfOk o (LobAt P p c)
      fewer d o le is = if-more (LobAt P p d) (LobAt P p c) o is (λ x all. (omega (arith, le, all.0), all.1))

pub any-lob : (p : ℕ) (limit : Option ℕ) (c : Cursor) → IfOk (lob_at limit c) (LobAt Any p c)
any-lob p limit c = lob-is Any any-joins limit (λ is_long rest. any-piece (piece_at (clob_quote is_long) rest)) (λ padded group four. any-ok (group_bytes padded group)) p c

-- ---- runs of bytes

run-either : (b : ℕ) (bytes : List ℕ) (on : Bool) (x : List ℕ × List ℕ) → length x.0 + length x.1 ≤ length bytes
    → length (elim on as (λ _. List ℕ × List ℕ) [ true ↦ (b ∷ x.0, x.1) | false ↦ ([], b ∷ bytes) ]).0
    + length (elim on as (λ _. List ℕ × List ℕ) [ true ↦ (b ∷ x.0, x.1) | false ↦ ([], b ∷ bytes) ]).1 ≤ suc (length bytes)
run-either b bytes true x le = omega (arith, le)
run-either b bytes false x le = omega arith

run-counts : (test : List ℕ → Bool) (bytes : List ℕ) → length (run_of test bytes).0 + length (run_of test bytes).1 ≤ length bytes
unfolding run_of
run-counts test [] = omega arith
run-counts test (b ∷ bytes) = run-either b bytes (test (b ∷ bytes)) (run_of test bytes) (run-counts test bytes)

-- some of them, where there are any
abbrev Front : List ℕ → List ℕ → Type 0
Front bytes front = (length front ≤ length bytes) × (0 < length bytes → 0 < length front)

bytes_of-front : (test : List ℕ → Bool) (bytes : List ℕ) → Front bytes (bytes_of test bytes)
bytes_of-front test [] = (omega arith, λ some. some)
bytes_of-front test (b ∷ bytes) = let all = run-counts test bytes in (omega (arith, all), λ _. omega arith)

word_of-front : (bytes : List ℕ) → Front bytes (word_of bytes)
word_of-front [] = (omega arith, λ some. some)
word_of-front (b ∷ bytes) =
    let all = run-counts in_word bytes in
    by (b ∷ (run_of in_word bytes).0) (run_of in_word bytes).1 (bytes_eq (codes "null") (b ∷ (run_of in_word bytes).0)) (first_is (λ b. b == 46) (run_of in_word bytes).1) (omega arith)
    (λ point. first-some (λ b. b == 46) (run_of in_word bytes).1 point) (omega (arith, all))
  where
    by : (word after : List ℕ) (null point : Bool) → 0 < length word → (point ≡ true → 1 ≤ length after) → length word + length after ≤ suc (length bytes)
        → Front (b ∷ bytes) (if null && point then word ++ 46 ∷ (run_of in_word (drop 1 after)).0 else word)
    by word after true true some there le =
        let all = run-counts in_word (drop 1 after) in
        let more = there refl in
        let long = length-append word (46 ∷ (run_of in_word (drop 1 after)).0) in
        (omega (arith, le, all, more, long, length-drop 1 after), λ _. omega (arith, some, long))
    by word after true false some there le = (omega (arith, le), λ _. some)
    by word after false point some there le = (omega (arith, le), λ _. some)

-- ---- tokens

-- an infinity has four bytes
abbrev pub Long : List ℕ → First → Type 0
Long rest an_infinity = 4 ≤ length rest
Long rest _ = Unit {0}

abbrev pub name_length : Symbol → ℕ
name_length (value.Text bytes) = length bytes
name_length (value.Id id) = 0

-- a name has no more bytes than so many
abbrev NameWithin : ℕ → Token → Type 0
NameWithin n (name quoted symbol) = name_length symbol ≤ n
NameWithin n _ = Unit {0}

-- a name has no more bytes than it takes
abbrev pub NameTaken : Cursor → Token → Cursor → Type 0
NameTaken c (name quoted symbol) d = name_length symbol + length d.rest ≤ length c.rest
NameTaken c _ d = Unit {0}

name-taken : (n : ℕ) (c : Cursor) (t : Token) → n ≤ length c.rest → NameWithin n t → NameTaken c t (skip n c)
name-taken n c (name quoted symbol) le fits = omega (arith, le, fits, length-drop n c.rest)
name-taken n c t le fits = tt

-- a token takes a byte where there is one, and counts no more bytes than there are
pub record TokenIs (first : First) (c : Cursor) (x : Token × Cursor) : Type 0 where
  pub past : 0 < length c.rest → length x.1.rest < length c.rest
  pub fits : Long c.rest first → counts x.0 c.place x.1.place ≤ length c.rest
  pub named : NameTaken c x.0 x.1

-- bytes that are counted, and what they mean
counted-is : (limit : Option ℕ) (first : First) (bytes : List ℕ) (c : Cursor) (means : List ℕ → Result Token Reason) → Front c.rest bytes
    → IfOk (means bytes) CountsAll → IfOk (means bytes) (NameWithin (length bytes)) → IfOk (counted limit bytes c >>= (λ r. means r.0 >>= (λ t. Ok (t, r.1)))) (TokenIs first c)
counted-is limit first bytes c means front all within =
    if-then (λ r. ◌≡◌ {A = List ℕ × Cursor} r (bytes, skip (length bytes) c)) _ (counted limit bytes c) _ (if-passed _ (passes limit (length bytes)) ScalarLimit _ (λ _. refl))
    (λ r e. rw e (by (means bytes) all within))
  where
    by : (o : Result Token Reason) → IfOk o CountsAll → IfOk o (NameWithin (length bytes)) → IfOk (o >>= (λ t. Ok (t, skip (length bytes) c))) (TokenIs first c)
    by (Err reason) all within = tt
    by (Ok t) all within = record {
      past = λ there. let long = front.1 there in omega (arith, front.0, long, length-drop (length bytes) c.rest);
      fits = λ _. omega (arith, front.0, all c.place (c.place + length bytes));
      named = name-taken (length bytes) c t front.0 within;
    }

run-named : (run : List ℕ) → IfOk (run_token run) (NameWithin (length run))
run-named run = if-scalar (NameWithin (length run)) run (scalar_of_run run) (by (scalar_of_run run)) tt
  where
    by : (o : Result (Scalar SymbolAt) Reason) → IfOk o (λ v. NameWithin (length run) (plain v))
    by (Ok v) = tt
    by (Err why) = tt

word-named : (word : List ℕ) → IfOk (word_token word) (NameWithin (length word))
unfolding word_token
word-named word = by (keyword word)
  where
    either : (b : Bool) → name_length (if b then value.Id (id_of word) else value.Text word) ≤ length word
    either true = omega arith
    either false = omega arith

    by : (k : Option Keyword) → IfOk (tokens.by_keyword k word) (NameWithin (length word))
    by None = either (is_id word)
    by (Some (a_null None)) = tt
    by (Some (a_null (Some type))) = tt
    by k = tt

-- a text between quotes, after so many
between-is : (limit : Option ℕ) (first : First) (n : ℕ) (c : Cursor) (q : Quote) (k : List ℕ → Token) → 0 < n → ((bytes : List ℕ) (p r : ℕ) → counts (k bytes) p r ≡ length bytes)
    → ((bytes : List ℕ) (d : Cursor) → length bytes + length d.rest ≤ length c.rest → NameTaken c (k bytes) d)
    → IfOk (text_at q limit (skip n c) >>= (λ t. Ok (k t.0, t.1))) (TokenIs first c)
between-is limit first n c q k some counted named =
    if-then (SizedAt Any (skip n c)) _ (text_at q limit (skip n c)) _ (any-text q limit (skip n c))
    (λ t s. record {
      past = λ there. omega (arith, some, there, s.0, length-drop n c.rest);
      fits = λ _. omega (arith, s.0, length-drop n c.rest, counted t.0 c.place t.1.place);
      named = named t.0 t.1 (omega (arith, s.0, length-drop n c.rest));
    })

pub token-is : (limit : Option ℕ) (first : First) (c : Cursor) → IfOk (token_of limit first c) (TokenIs first c)
unfolding token_of
token-is limit a_run c =
    counted-is limit a_run (bytes_of in_run c.rest) c run_token (bytes_of-front in_run c.rest) (run_token-counts (bytes_of in_run c.rest)) (run-named (bytes_of in_run c.rest))
token-is limit a_word c = counted-is limit a_word (word_of c.rest) c word_token (word_of-front c.rest) (word_token-counts (word_of c.rest)) (word-named (word_of c.rest))
token-is limit a_quoted c = between-is limit a_quoted 1 c quoted.symbol_quote (λ bytes. name true (value.Text bytes)) (omega arith) (λ bytes p r. refl) (λ bytes d le. le)
token-is limit a_short c = between-is limit a_short 1 c (quoted.short_quote false) text (omega arith) (λ bytes p r. refl) (λ bytes d le. tt)
token-is limit a_long c = between-is limit a_long 3 c (quoted.long_quote false) text (omega arith) (λ bytes p r. refl) (λ bytes d le. tt)
token-is limit a_lob c =
    if-then (LobAt Any c.place (skip 2 c)) _ (lob_at limit (skip 2 c)) _ (any-lob c.place limit (skip 2 c))
    (λ l s. record { past = λ there. omega (arith, there, s.0, length-drop 2 c.rest); fits = λ _. omega (arith, s.0, length-drop 2 c.rest); named = tt })
token-is limit an_operator c =
    counted-is limit an_operator (bytes_of in_operator c.rest) c (λ bytes. Ok (operator bytes)) (bytes_of-front in_operator c.rest) (λ p r. refl) tt
token-is limit an_infinity c =
    if-passed _ (passes limit 4) ScalarLimit _ (λ _. record { past = λ there. omega (arith, there, length-drop 4 c.rest); fits = λ long. omega (arith, long); named = tt })
token-is limit no_token c = tt
token-is limit two_colons c = record { past = λ there. omega (arith, there, length-drop 2 c.rest); fits = λ _. omega arith; named = tt }
token-is limit first c = record { past = λ there. omega (arith, there, length-drop 1 c.rest); fits = λ _. omega arith; named = tt }

-- what is read leaves less than there was
abbrev pub Past : {A : Type 0} → Cursor → Result (A × Cursor) Reason → Type 0
Past c o = IfOk o (λ x. length x.1.rest < length c.rest)

pub token-past : (limit : Option ℕ) (first : First) (c : Cursor) → 0 < length c.rest → Past c (token_of limit first c)
token-past limit first c some = if-more (TokenIs first c) _ (token_of limit first c) (token-is limit first c) (λ x is. is.past some)
