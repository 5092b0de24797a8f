-- Texts between quotes: strings, long strings, symbols in quotes, and the texts of clobs (Ion specification, "Strings", "Clobs").
use Rattle.std.specs.Prelude.{ℕ, zero, suc, ◌+◌, ◌*◌, ◌-◌, Bool, true, false, not, ◌&&◌, ◌||◌, ◌==◌, nat_le, nat_lt, if◌then◌else◌, List, [], ◌∷◌, ◌++◌, length, encode_utf8, Option, Some, None, Result, Ok, Err}
use Rattle.std.specs.Str.{is_utf8}
use Rattle.ion_meter.specs.declared.fault.Reason.{Reason}
use Rattle.ion_meter.specs.declared.fault.Reason.TheVariants.{Truncated, BadText, BadLob, ScalarLimit}
use Rattle.ion_value.specs.Digits.{is_between, is_hex_digit, digit_value, first_is}
use Rattle.ion_value.specs.Name.{begins_with, is_one_of}
use Rattle.ion_value.specs.Parts.{Placed, refuse, ◌>>=◌, ◌>>◌}
use Rattle.ion_meter.specs.Sources.{Cursor, skip}
use Rattle.ion_text_in.specs.Places.{after_run}
use Rattle.ion_text_in.specs.Limit.{passes}
use Rattle.ion_text_in.specs.Blanks.{is_white, blanks}

-- what closes a text, whether it is long, so that lines may end in it and further segments may follow, and whether it is a clob's
pub record Quote : Type 0 where
  pub closer : List ℕ
  pub is_long : Bool
  pub in_clob : Bool

-- the quotes of a symbol, `'`
abbrev pub symbol_quote : Quote
symbol_quote = record { closer = 39 ∷ []; is_long = false; in_clob = false }

-- the quotes of a string, `"`, or of a clob's short text
abbrev pub short_quote : Bool → Quote
short_quote in_clob = record { closer = 34 ∷ []; is_long = false; in_clob = in_clob }

-- the quotes of a long string, `'''`, or of a clob's long text
abbrev pub long_quote : Bool → Quote
long_quote in_clob = record { closer = 39 ∷ 39 ∷ 39 ∷ []; is_long = true; in_clob = in_clob }

-- what stands at a place inside: the bytes of a character, or the closing quotes, each of so many bytes of the text; something that is no
-- character; or something that the input's end cuts
pub data Piece : Type 0 where
  char : (bytes : List ℕ) → (taken : ℕ) → Piece
  close : (taken : ℕ) → Piece
  illegal : Piece
  cut : Piece

-- ---- escapes

-- what so many hex digits spell and the bytes after them; or that a byte among them is none, or that the input ends there
pub data Hex : Type 0 where
  number : (value : ℕ) → (after : List ℕ) → Hex
  no_digit : Hex
  cut_digits : Hex

-- so many hex digits at the front of these bytes, after others that spell n
unfoldable pub hex_after : ℕ → ℕ → List ℕ → Hex
hex_after zero n bytes = number n bytes
hex_after (suc more) n [] = cut_digits
hex_after (suc more) n (b ∷ bytes) = elim (is_hex_digit b) [ true ↦ hex_after more (16 * n + digit_value b) bytes | false ↦ no_digit ]

-- the first of two codes by which UTF-16 has a character from U+10000 on
abbrev pub is_high_surrogate : ℕ → Bool
is_high_surrogate c = is_between 0xD800 0xDBFF c

-- the second of two such codes
abbrev pub is_low_surrogate : ℕ → Bool
is_low_surrogate c = is_between 0xDC00 0xDFFF c

-- a character by its code point, where it is one
abbrev pub by_code : ℕ → ℕ → Piece
by_code c taken = if nat_le c 0x10FFFF && not (is_between 0xD800 0xDFFF c) then char (encode_utf8 c) taken else illegal

-- the code point of a high and a low surrogate
abbrev pub pair : ℕ → ℕ → ℕ
pair high low = 0x10000 + (high - 0xD800) * 1024 + (low - 0xDC00)

-- the character of a high surrogate and of the escape after it, whose digits these are: they must tell a low one
abbrev pub low_half : ℕ → Hex → Piece
low_half high (number low after) = if is_low_surrogate low then by_code (pair high low) 12 else illegal
low_half high no_digit = illegal
low_half high cut_digits = cut

-- after the escape of a high surrogate, which that of a low one must follow at once
abbrev pub low_after : ℕ → List ℕ → Piece
low_after high [] = cut
low_after high (b ∷ []) = if b == 92 then cut else illegal
low_after high (b ∷ c ∷ bytes) = if b == 92 && c == 117 then low_half high (hex_after 4 0 bytes) else illegal

-- the character of `\x` and two digits, which in a clob is a byte
abbrev pub byte_code : Bool → Hex → Piece
byte_code true (number n after) = char (n ∷ []) 4
byte_code false (number n after) = by_code n 4
byte_code in_clob no_digit = illegal
byte_code in_clob cut_digits = cut

-- the character of `\u` and four digits, or of two such escapes where these are a pair of surrogates
abbrev pub short_code : Hex → Piece
short_code (number n after) = if is_high_surrogate n then low_after n after else by_code n 6
short_code no_digit = illegal
short_code cut_digits = cut

-- the character of `\U` and eight digits
abbrev pub long_code : Hex → Piece
long_code (number n after) = by_code n 10
long_code no_digit = illegal
long_code cut_digits = cut

-- `\a \b \t \n \f \r \v \0`, and those characters that stand for themselves after a backslash
abbrev pub letter : ℕ → Option ℕ
letter e =
    if e == 97 then Some 7 else (if e == 98 then Some 8 else (if e == 116 then Some 9 else (if e == 110 then Some 10
    else (if e == 102 then Some 12 else (if e == 114 then Some 13 else (if e == 118 then Some 11 else (if e == 48 then Some 0
    else (if is_one_of (63 ∷ 34 ∷ 39 ∷ 92 ∷ 47 ∷ []) e then Some e else None))))))))

-- an escape by code, whose letter is e: `\x`, and outside of clobs `\u` and `\U`
abbrev pub coded : Bool → ℕ → List ℕ → Piece
coded in_clob e bytes =
    if e == 120 then byte_code in_clob (hex_after 2 0 bytes)
    else (if in_clob then illegal
    else (if e == 117 then short_code (hex_after 4 0 bytes)
    else (if e == 85 then long_code (hex_after 8 0 bytes)
    else illegal)))

-- an escape whose letter is e: the byte that it means, where it means one by itself, and else what the code after it means
abbrev pub by_letter : Option ℕ → Bool → ℕ → List ℕ → Piece
by_letter (Some c) in_clob e bytes = char (c ∷ []) 2
by_letter None in_clob e bytes = coded in_clob e bytes

-- CR and LF are one end of a line
abbrev pub line_end_length : ℕ → List ℕ → ℕ
line_end_length b bytes = if b == 13 && first_is (λ c. c == 10) bytes then 2 else 1

-- after a backslash: an end of a line vanishes with it
abbrev pub escape : Bool → List ℕ → Piece
escape in_clob [] = cut
escape in_clob (e ∷ bytes) = if e == 10 || e == 13 then char [] (1 + line_end_length e bytes) else by_letter (letter e) in_clob e bytes

-- ---- characters

-- a byte that may stand for itself
abbrev pub is_raw : Quote → ℕ → Bool
is_raw q b = (nat_le 32 b || is_one_of (9 ∷ 11 ∷ 12 ∷ []) b) && (not q.in_clob || nat_lt b 128)

-- a long text has LF for each end of a line
abbrev pub raw : Quote → ℕ → List ℕ → Piece
raw q b bytes = if q.is_long && (b == 10 || b == 13) then char (10 ∷ []) (line_end_length b bytes) else (if is_raw q b then char (b ∷ []) 1 else illegal)

-- what stands at the front of these bytes, inside such quotes
unfoldable pub piece_at : Quote → List ℕ → Piece
piece_at q [] = cut
piece_at q (b ∷ bytes) =
    if begins_with q.closer (b ∷ bytes) then close (length q.closer) else (if b == 92 then escape q.in_clob bytes else raw q b bytes)

-- ---- segments

-- the reason where something illegal stands in a text: BadLob in a clob, and else BadText
abbrev pub bad_text : Quote → Reason
bad_text q = if q.in_clob then BadLob else BadText

-- what a piece gives, and then the others, where so many bytes came before
abbrev pub with_piece : (ℕ → Cursor → Result (List ℕ × Cursor) Reason) → Quote → Option ℕ → ℕ → Cursor → Piece → Result (List ℕ × Cursor) Reason
with_piece later q limit count c (char bytes taken) = do
  refuse (passes limit (count + length bytes)) ScalarLimit
  others ← later (count + length bytes) (skip taken c)
  Ok (bytes ++ others.0, others.1)
with_piece later q limit count c (close taken) = Ok ([], skip taken c)
with_piece later q limit count c illegal = Err (bad_text q)
with_piece later q limit count c cut = Err Truncated

-- the pieces from after opening quotes to after the closing ones; the first number is how many there are at most
unfoldable pub pieces_for : ℕ → Quote → Option ℕ → ℕ → Cursor → Result (List ℕ × Cursor) Reason
pieces_for zero q limit count c = Err Truncated
pieces_for (suc most) q limit count c = with_piece (λ n d. pieces_for most q limit n d) q limit count c (piece_at q c.rest)

-- a segment; what it spells is UTF-8 but in a clob
unfoldable pub segment_at : Quote → Option ℕ → ℕ → Cursor → Result (List ℕ × Cursor) Reason
segment_at q limit count c = do
  s ← pieces_for (suc (length c.rest)) q limit count c
  refuse (not (q.in_clob || is_utf8 s.0)) BadText
  Ok s

-- after the quotes of a further segment, where one follows
abbrev pub after_quotes : Quote → Cursor → Option Cursor
after_quotes q c = if begins_with q.closer c.rest then Some (skip (length q.closer) c) else None

-- what was read, where there was no fault
abbrev pub where_read : {A : Type 0} → Placed A → Option A
where_read (Ok x) = Some x
where_read (Err fault) = None

-- white space stands between the segments of a clob, and comments too between others
abbrev pub between : Bool → Cursor → Option Cursor
between true c = Some (after_run (first_is is_white) c)
between false c = where_read (blanks c)

-- after the quotes of a further segment, where there is a cursor and they stand at it
abbrev pub in_next : Quote → Option Cursor → Option Cursor
in_next q None = None
in_next q (Some c) = after_quotes q c

-- after the opening quotes of a further segment, where one follows: in long texts alone
abbrev pub next_segment : Quote → Cursor → Option Cursor
next_segment q c = if q.is_long then in_next q (between q.in_clob c) else None

-- a segment (`s`) and then the further ones, which the first argument reads where there are any
abbrev pub with_segments : (Cursor → Result (List ℕ × Cursor) Reason) → List ℕ × Cursor → Option Cursor → Result (List ℕ × Cursor) Reason
with_segments later s None = Ok s
with_segments later s (Some c) = do
  others ← later c
  Ok (s.0 ++ others.0, others.1)

-- the segments from after the first opening quotes on; the first number is how many there are at most
unfoldable pub segments_for : ℕ → Quote → Option ℕ → ℕ → Cursor → Result (List ℕ × Cursor) Reason
segments_for zero q limit count c = Err Truncated
segments_for (suc most) q limit count c = do
  s ← segment_at q limit count c
  with_segments (λ d. segments_for most q limit (count + length s.0) d) s (next_segment q s.1)

-- a text after its opening quotes: the bytes that it spells, of which a limit may say how many there may be
abbrev pub text_at : Quote → Option ℕ → Cursor → Result (List ℕ × Cursor) Reason
text_at q limit c = segments_for (suc (length c.rest)) q limit 0 c
