-- Tokens: what tells a token's kind, how far it goes, and what it means (Ion specification, "Text Encoding").
use Rattle.std.specs.Prelude.{ℕ, Bool, true, false, not, ◌&&◌, ◌||◌, ◌==◌, if◌then◌else◌, List, [], ◌∷◌, ◌++◌, length, drop, codes, Option, Some, None, Result, Ok, Err}
use Rattle.std.specs.Str.{bytes_eq}
use lib.Ieee.{Float, nan, inf}
use Rattle.ion_meter.specs.declared.fault.Reason.{Reason}
use Rattle.ion_meter.specs.declared.fault.Reason.TheVariants as reason
use Rattle.ion_meter.specs.declared.fault.Reason.TheVariants.{BadToken, ScalarLimit}
use Rattle.ion_value.specs.declared.ion_type.IonType.{IonType}
use Rattle.ion_value.specs.declared.ion_type.Kind.{Kind}
use Rattle.ion_value.specs.declared.ion_type.Kind.TheVariants as kind
use Rattle.ion_value.specs.Digits.{is_digit, first_is, has_minus}
use Rattle.ion_value.specs.FloatText.{float_of_text}
use Rattle.ion_value.specs.Name.{Keyword, a_null, a_bool, a_nan, begins_with, is_identifier_start, is_identifier_byte, is_one_of, is_operator_byte, is_id, id_of, keyword}
use Rattle.ion_value.specs.Scalar.{scalar_of_run}
use Rattle.ion_value.specs.Value as value
use Rattle.ion_value.specs.Value.{Symbol, SymbolAt, Scalar, null, bool}
use Rattle.ion_meter.specs.Sources.{Cursor, skip}
use Rattle.ion_value.specs.Parts.{Placed, part, refuse, ◌>>=◌, ◌>>◌}
use Rattle.ion_text_in.specs.Places.{run_of}
use Rattle.ion_text_in.specs.Limit.{passes}
use Rattle.ion_text_in.specs.Blanks.{is_white, begins_comment, blanks}
use Rattle.ion_text_in.specs.Quoted.{symbol_quote, short_quote, long_quote, text_at}
use Rattle.ion_text_in.specs.Lob.{lob_at}

-- ---- kinds

-- what kind of token begins at a place, told by its first bytes
pub data First : Type 0 where
  a_run : First
  a_word : First
  a_quoted : First
  a_short : First
  a_long : First
  a_lob : First
  an_operator : First
  an_infinity : First
  a_begin : (kind : Kind) → First
  an_end : (kind : Kind) → First
  a_comma : First
  a_colon : First
  two_colons : First
  no_token : First

-- `+inf` or `-inf`, and no identifier goes on after it
abbrev pub is_infinity : List ℕ → Bool
is_infinity bytes =
    (begins_with (codes "+inf") bytes || begins_with (codes "-inf") bytes) && not (first_is is_identifier_byte (drop 4 bytes))

-- a number or timestamp begins at the byte b: a digit, or a minus before a digit
abbrev pub begins_run : ℕ → List ℕ → Bool
begins_run b bytes = is_digit b || (b == 45 && first_is is_digit bytes)

-- which bracket, comma or colons begin at the byte b, if any
abbrev pub punctuation : ℕ → List ℕ → First
punctuation b bytes =
    if b == 123 then a_begin kind.Struct
    else (if b == 91 then a_begin kind.List
    else (if b == 40 then a_begin kind.Sexp
    else (if b == 125 then an_end kind.Struct
    else (if b == 93 then an_end kind.List
    else (if b == 41 then an_end kind.Sexp
    else (if b == 44 then a_comma
    else (if b == 58 then (if first_is (λ c. c == 58) bytes then two_colons else a_colon)
    else no_token)))))))

-- operators stand in sexps alone
unfoldable pub first_at : Bool → List ℕ → First
first_at in_sexp [] = no_token
first_at in_sexp (b ∷ bytes) =
    if is_identifier_start b then a_word
    else (if begins_run b bytes then a_run
    else (if b == 34 then a_short
    else (if begins_with (39 ∷ 39 ∷ 39 ∷ []) (b ∷ bytes) then a_long
    else (if b == 39 then a_quoted
    else (if begins_with (codes "{{") (b ∷ bytes) then a_lob
    else (if is_infinity (b ∷ bytes) then an_infinity
    else (if in_sexp && is_operator_byte b then an_operator
    else punctuation b bytes)))))))

-- ---- runs of bytes

-- a number or timestamp goes on up to punctuation, a quote, white space or a comment
abbrev pub in_run : List ℕ → Bool
in_run [] = false
in_run (b ∷ bytes) = not (is_one_of (codes "{}[](),\"'") b || is_white b || begins_comment (b ∷ bytes))

-- the first of these bytes goes on with an operator: a character of operators that begins no comment
abbrev pub in_operator : List ℕ → Bool
in_operator bytes = first_is is_operator_byte bytes && not (begins_comment bytes)

-- the first of these bytes goes on with an identifier
abbrev pub in_word : List ℕ → Bool
in_word bytes = first_is is_identifier_byte bytes

-- the first byte, and all that go on with it
abbrev pub bytes_of : (List ℕ → Bool) → List ℕ → List ℕ
bytes_of test [] = []
bytes_of test (b ∷ bytes) = b ∷ (run_of test bytes).0

-- a token of bytes, and what stands after it, where a limit may say how long it may be
abbrev pub counted : Option ℕ → List ℕ → Cursor → Result (List ℕ × Cursor) Reason
counted limit bytes c = do
  refuse (passes limit (length bytes)) ScalarLimit
  Ok (bytes, skip (length bytes) c)

-- the bytes of a word: after `null` and a point, all up to the end of what could be an identifier
abbrev pub with_type : List ℕ → List ℕ → List ℕ
with_type word after =
    if bytes_eq (codes "null") word && first_is (λ b. b == 46) after then word ++ 46 ∷ (run_of in_word (drop 1 after)).0 else word

-- the bytes of the word that these bytes begin with; a point after `null` belongs to it, with what could name a type
abbrev pub word_of : List ℕ → List ℕ
word_of [] = []
word_of (b ∷ bytes) = with_type (b ∷ (run_of in_word bytes).0) (run_of in_word bytes).1

-- ---- tokens

-- by what it means: a scalar that is neither a symbol nor a float; a float, or none where its digits round to infinity; a symbol, in
-- quotes or not; a string; an operator; or punctuation
pub data Token : Type 0 where
  plain : (body : Scalar SymbolAt) → Token
  float : (number : Option Float) → Token
  name : (quoted : Bool) → (symbol : Symbol) → Token
  text : (bytes : List ℕ) → Token
  operator : (bytes : List ℕ) → Token
  begin : (kind : Kind) → Token
  end : (kind : Kind) → Token
  comma : Token
  colon : Token
  colons : Token

-- the null of this type, and BadToken where what stands after `null.` names none
abbrev pub null_token : Option IonType → Result Token Reason
null_token (Some type) = Ok (plain (null type))
null_token None = Err BadToken

-- what a word means by the keyword that it is; where it is none, a symbol by its id or its text
abbrev pub by_keyword : Option Keyword → List ℕ → Result Token Reason
by_keyword (Some (a_null type)) word = null_token type
by_keyword (Some (a_bool truth)) word = Ok (plain (bool truth))
by_keyword (Some a_nan) word = Ok (float (Some nan))
by_keyword None word = Ok (name false (if is_id word then value.Id (id_of word) else value.Text word))

-- what a word without quotes means: a null, a bool, `nan` or a symbol
unfoldable pub word_token : List ℕ → Result Token Reason
word_token word = by_keyword (keyword word) word

-- a float that was read, or none
abbrev pub found_float : Result Float Reason → Option Float
found_float (Ok x) = Some x
found_float (Err why) = None

-- the scalar that a run was read as, or the float where it is refused as one
abbrev pub scalar_token : List ℕ → Result (Scalar SymbolAt) Reason → Result Token Reason
scalar_token run (Ok v) = Ok (plain v)
scalar_token run (Err reason.Float) = Ok (float (found_float (float_of_text run)))
scalar_token run (Err why) = Err why

-- what the bytes of a number or timestamp mean, or why they mean nothing
abbrev pub run_token : List ℕ → Result Token Reason
run_token run = scalar_token run (scalar_of_run run)

-- a token that is punctuation, of so many bytes
abbrev pub mark : Token → ℕ → Cursor → Result (Token × Cursor) Reason
mark t n c = Ok (t, skip n c)

-- the token of a kind that begins at a place, where a limit may say how many bytes it counts
unfoldable pub token_of : Option ℕ → First → Cursor → Result (Token × Cursor) Reason
token_of limit a_run c = do
  r ← counted limit (bytes_of in_run c.rest) c
  t ← run_token r.0
  Ok (t, r.1)
token_of limit a_word c = do
  w ← counted limit (word_of c.rest) c
  t ← word_token w.0
  Ok (t, w.1)
token_of limit a_quoted c = do
  t ← text_at symbol_quote limit (skip 1 c)
  Ok (name true (value.Text t.0), t.1)
token_of limit a_short c = do
  t ← text_at (short_quote false) limit (skip 1 c)
  Ok (text t.0, t.1)
token_of limit a_long c = do
  t ← text_at (long_quote false) limit (skip 3 c)
  Ok (text t.0, t.1)
token_of limit a_lob c = do
  l ← lob_at limit (skip 2 c)
  Ok (plain l.0, l.1)
token_of limit an_operator c = do
  r ← counted limit (bytes_of in_operator c.rest) c
  Ok (operator r.0, r.1)
token_of limit an_infinity c = do
  refuse (passes limit 4) ScalarLimit
  mark (float (Some (inf (has_minus c.rest)))) 4 c
token_of limit (a_begin kind) c = mark (begin kind) 1 c
token_of limit (an_end kind) c = mark (end kind) 1 c
token_of limit a_comma c = mark comma 1 c
token_of limit a_colon c = mark colon 1 c
token_of limit two_colons c = mark colons 2 c
token_of limit no_token c = Err BadToken

-- the token that begins at the cursor, in a sexp or not, where a limit may say how many bytes it counts
abbrev pub token_at : Option ℕ → Bool → Cursor → Result (Token × Cursor) Reason
token_at limit in_sexp c = token_of limit (first_at in_sexp c.rest) c

-- a token, the place of its first byte, and what stands after it
pub record Cut : Type 0 where
  pub token : Token
  pub first : ℕ
  pub after : Cursor

-- a token whose first byte is at the place `first`, and what stands after it
abbrev pub cut : Token → ℕ → Cursor → Cut
cut t first after = record { token = t; first = first; after = after }

-- the next token after blanks
unfoldable pub next_token : Option ℕ → Bool → Cursor → Placed Cut
next_token limit in_sexp c = do
  b ← blanks c
  t ← part b.place (token_at limit in_sexp b)
  Ok (cut t.0 b.place t.1)
