-- What a token means: the text of a scalar is read as that scalar, whatever stands after it that ends it; the characters of a blob are the base64 of its bytes; what each token means is raw. And what it counts under a limit.
use Rattle.std.specs.Prelude.{◌≡◌, ◌≢◌, ℕ, ◌+◌, ◌-◌, ◌*◌, ◌^◌, ◌<◌, ◌≤◌, Bool, true, false, not, nat_lt, if◌then◌else◌, List, [], ◌∷◌, ◌++◌, All, length, filter, codes, decimal as digits, Option, Some, None, IsUtf8, ⊤, Ok, Err}
use Rattle.std.specs.Str.{is_utf8}
use lib.Ieee.{Float, fin}
use Rattle.base64.specs.Engines.{standard}
use Rattle.base64.specs.GeneralPurpose.{encode_of}
use Rattle.ion_meter.specs.declared.fault.Reason.TheVariants.{ScalarLimit}
use Rattle.ion_meter.specs.declared.profile.Rules.{Rules}
use Rattle.ion_meter.specs.Sources.{Cursor}
use Rattle.ion_value.specs.declared.decimal.Decimal.{Decimal}
use Rattle.ion_value.specs.declared.int.Int.{Int}
use Rattle.ion_value.specs.declared.ion_type.IonType.{IonType}
use Rattle.ion_value.specs.declared.ion_type.IonType.TheVariants as type
use Rattle.ion_value.specs.declared.timestamp.Timestamp.{Timestamp}
use Rattle.ion_value.specs.Decimal.{IsDecimal, decimal_text}
use Rattle.ion_value.specs.Digits.{is_hex_digit, digit_value, all_are}
use Rattle.ion_value.specs.Float.{IsFloat}
use Rattle.ion_value.specs.FloatText.{float_text}
use Rattle.ion_value.specs.Int.{IsInt, int_text}
use Rattle.ion_value.specs.Name.{null_text, bool_text, is_id, id_of, is_plain}
use Rattle.ion_value.specs.Timestamp.{IsTimestamp, timestamp_text}
use Rattle.ion_value.specs.ReadingLaws.{IsPermitted}
use Rattle.ion_value.specs.Standing.{InRange}
use Rattle.ion_value.specs.Value.{SymbolAt, Scalar, Text, Id, null, bool, int, decimal, timestamp, clob, blob}
use Rattle.ion_value.specs.Writable.{HasText, HasBytes, SymbolIsText, scalar_symbols}
use Rattle.ion_text_in.specs.Blanks.{is_white}
use Rattle.ion_text_in.specs.Beginnings.{BeginsNot, EndsIdentifier, EndsNumber}
use Rattle.ion_text_in.specs.Grammar.{Tok}
use Rattle.ion_text_in.specs.Token as tokens
use Rattle.ion_text_in.specs.Token.{Token, plain, cut, token_at, next_token}

-- a limit on what a token counts, where there is one
abbrev pub Limit : Type 0
Limit = Option ℕ

-- a limit that so many bytes do not pass
abbrev pub Allows : Limit → ℕ → Type 0
Allows None count = Unit {0}
Allows (Some limit) count = count ≤ limit

-- the cursor at a place, where these bytes are still to come
abbrev pub at : ℕ → List ℕ → Cursor
at place rest = record { place = place; rest = rest }

-- a text is a token wherever it stands and whatever stands after it that ends it, under every limit that allows so
-- many bytes
abbrev pub Means : ℕ → (List ℕ → Type 0) → List ℕ → Token → Type 0
Means count Ends text t =
    (limit : Limit) (sexp : Bool) (place : ℕ) (rest : List ℕ) → Allows limit count → Ends rest
    → token_at limit sexp (at place (text ++ rest)) ≡ Ok (t, at (place + length text) rest)

-- what closes itself is ended by anything
abbrev pub Anything : List ℕ → Type 0
Anything rest = Unit {0}

-- ---- words

-- a point too goes on with `null` alone
abbrev pub EndsNull : IonType → List ℕ → Type 0
EndsNull type.Null rest = EndsIdentifier rest × BeginsNot (codes ".") rest
EndsNull t rest = EndsIdentifier rest

-- the canonical text of each null is read as that null
abbrev pub NullTextIsRead : Type 0
NullTextIsRead = (t : IonType) → Means (length (null_text t)) (EndsNull t) (null_text t) (plain (null t))

-- `true` and `false` are read as these bools
abbrev pub BoolTextIsRead : Type 0
BoolTextIsRead = (truth : Bool) → Means (length (bool_text truth)) EndsIdentifier (bool_text truth) (plain (bool truth))

-- an identifier that means nothing else
abbrev pub PlainSymbolIsRead : Type 0
PlainSymbolIsRead =
    (word : List ℕ) → is_plain word ≡ true → Means (length word) EndsIdentifier word (tokens.name false (Text word))

-- `$` and digits alone are the symbol of the id that they say
abbrev pub IdWordIsRead : Type 0
IdWordIsRead = (word : List ℕ) → is_id word ≡ true → Means (length word) EndsIdentifier word (tokens.name false (Id (id_of word)))

-- so `$` and the digits of each id are the symbol of that id
abbrev pub IdIsRead : Type 0
IdIsRead = (id : ℕ) → id ≤ 2 ^ 31 → Means (length (36 ∷ digits id)) EndsIdentifier (36 ∷ digits id) (tokens.name false (Id id))

-- ---- runs

-- the canonical text of each int is read as that int
abbrev pub IntTextIsRead : Type 0
IntTextIsRead = (i : Int) → IsInt i → Means (length (int_text i)) EndsNumber (int_text i) (plain (int i))

-- the canonical text of each decimal is read as that decimal
abbrev pub DecimalTextIsRead : Type 0
DecimalTextIsRead =
    (d : Decimal) → IsDecimal d → Means (length (decimal_text d)) EndsNumber (decimal_text d) (plain (decimal d))

-- the canonical text of each timestamp is read as that timestamp
abbrev pub TimestampTextIsRead : Type 0
TimestampTextIsRead =
    (t : Timestamp) → IsTimestamp t → Means (length (timestamp_text t)) EndsNumber (timestamp_text t) (plain (timestamp t))

-- the canonical text of each float is read as that float: what ends a number ends it, where it is a word it ends as one does
abbrev pub EndsFloat : Float → List ℕ → Type 0
EndsFloat (fin sign m e) rest = EndsNumber rest
EndsFloat x rest = EndsIdentifier rest

abbrev pub FloatTextIsRead : Type 0
FloatTextIsRead = (x : Float) → IsFloat x → Means (length (float_text x)) (EndsFloat x) (float_text x) (tokens.float (Some x))

-- ---- blobs

-- without white space
abbrev pub solid : List ℕ → List ℕ
solid bytes = filter (λ b. not (is_white b)) bytes

-- the base64 of some bytes, with white space anywhere
abbrev pub IsBase64 : List ℕ → List ℕ → Type 0
IsBase64 chars bytes = solid chars ≡ encode_of standard bytes

-- such characters between braces are a blob of these bytes
abbrev pub Base64IsRead : Type 0
Base64IsRead =
    (chars bytes : List ℕ) → All (λ octet. octet < 256) bytes → IsBase64 chars bytes
    → Means (length bytes) Anything (codes "{{" ++ (chars ++ codes "}}")) (plain (blob bytes))

-- the characters of a blob and the braces that close it, from one place to another
pub record BlobText (bytes : List ℕ) (c d : Cursor) : Type 0 where
  pub chars : List ℕ
  pub text : c.rest ≡ chars ++ (125 ∷ 125 ∷ d.rest)
  pub place : d.place ≡ c.place + (length chars + 2)
  pub base64 : IsBase64 chars bytes

-- and no other characters are
abbrev pub BlobsAreBase64 : Type 0
BlobsAreBase64 =
    (limit : Limit) (sexp : Bool) (place : ℕ) (rest bytes : List ℕ) (d : Cursor) → All (λ octet. octet < 256) rest
    → token_at limit sexp (at place (123 ∷ 123 ∷ rest)) ≡ Ok (plain (blob bytes), d)
    → BlobText bytes (at (place + 2) rest) d

-- ---- texts between quotes

-- the letter of an escape after a backslash, and the byte that it means
pub data Escape : ℕ → ℕ → Type 0 where
  bell : Escape 97 7
  backspace : Escape 98 8
  tab : Escape 116 9
  line_feed : Escape 110 10
  form_feed : Escape 102 12
  carriage_return : Escape 114 13
  vertical_tab : Escape 118 11
  nul : Escape 48 0
  question_mark : Escape 63 63
  double_quote : Escape 34 34
  single_quote : Escape 39 39
  backslash : Escape 92 92
  slash : Escape 47 47

-- how a byte may be written between such quotes: as itself, which in a clob is ASCII alone, by an escape, or by
-- its code in two digits, which is ASCII alone but in a clob
pub data Char (quote : ℕ) (in_clob : Bool) : List ℕ → ℕ → Type 0 where
  shown : (b : ℕ) → 32 ≤ b → b ≢ quote → b ≢ 92 → (in_clob ≡ true → b < 128) → Char quote in_clob (b ∷ []) b
  escaped : (letter b : ℕ) → Escape letter b → Char quote in_clob (92 ∷ letter ∷ []) b
  coded : (x y : ℕ) → is_hex_digit x ≡ true → is_hex_digit y ≡ true
      → (in_clob ≡ false → 16 * digit_value x + digit_value y < 128)
      → Char quote in_clob (92 ∷ 120 ∷ x ∷ y ∷ []) (16 * digit_value x + digit_value y)

-- characters between such quotes, and the bytes that they mean
pub data Chars (quote : ℕ) (in_clob : Bool) : List ℕ → List ℕ → Type 0 where
  none : Chars quote in_clob [] []
  and_then : {text chars bytes : List ℕ} {b : ℕ} → Char quote in_clob text b → Chars quote in_clob chars bytes
      → Chars quote in_clob (text ++ chars) (b ∷ bytes)

-- characters with this quote before and after them
abbrev pub quoted : ℕ → List ℕ → List ℕ
quoted quote chars = quote ∷ (chars ++ quote ∷ [])

-- characters between double quotes are a string of the bytes that they mean, where these are UTF-8
abbrev pub StringTextIsRead : Type 0
StringTextIsRead =
    (chars bytes : List ℕ) → Chars 34 false chars bytes → is_utf8 bytes ≡ true
    → Means (length bytes) Anything (quoted 34 chars) (tokens.text bytes)

-- after two quotes alone a third begins a long string
abbrev pub EndsSymbol : List ℕ → List ℕ → Type 0
EndsSymbol bytes rest = bytes ≡ [] → BeginsNot (codes "'") rest

-- characters between single quotes are a symbol of the bytes that they mean, where these are UTF-8
abbrev pub QuotedSymbolIsRead : Type 0
QuotedSymbolIsRead =
    (chars bytes : List ℕ) → Chars 39 false chars bytes → is_utf8 bytes ≡ true
    → Means (length bytes) (EndsSymbol bytes) (quoted 39 chars) (tokens.name true (Text bytes))

-- a clob has white space around its quotes, and no comments
abbrev pub ClobTextIsRead : Type 0
ClobTextIsRead =
    (prefix chars back bytes : List ℕ)
    → all_are is_white prefix ≡ true → Chars 34 true chars bytes → all_are is_white back ≡ true
    → Means (length bytes) Anything (codes "{{" ++ (prefix ++ (quoted 34 chars ++ (back ++ codes "}}"))))
    (plain (clob bytes))

-- ---- what a token means is raw

-- a scalar that is neither a symbol nor a float: its number is in range, its text is UTF-8, its bytes are below 256
pub record IsRawScalar (body : Scalar SymbolAt) : Type 0 where
  pub in_range : InRange body
  pub text : HasText body
  pub bytes : HasBytes body
  pub no_symbol : scalar_symbols body ≡ []
  pub no_float : (limits : Rules) → IsPermitted limits body

-- what a token means is such a scalar, a float, or text in UTF-8; punctuation means nothing
abbrev pub IsRawToken : Token → Type 0
IsRawToken (plain body) = IsRawScalar body
IsRawToken (tokens.float (Some x)) = IsFloat x
IsRawToken (tokens.name quoted symbol) = SymbolIsText symbol
IsRawToken (tokens.text bytes) = IsUtf8 bytes
IsRawToken (tokens.operator bytes) = IsUtf8 bytes
IsRawToken t = ⊤

-- so it is with each token
abbrev pub TokensAreRaw : Type 0
TokensAreRaw = (sexp : Bool) (c d : Cursor) (t : Token) (p : ℕ) → Tok sexp c t p d → IsRawToken t

-- ---- what a token counts

-- so many bytes a token counts that goes from one place to another: those that it means, for what stands between quotes or is a
-- lob; none, for punctuation; and else all its bytes
abbrev pub counts : Token → ℕ → ℕ → ℕ
counts (tokens.text bytes) p q = length bytes
counts (tokens.name true (Text bytes)) p q = length bytes
counts (plain (clob bytes)) p q = length bytes
counts (plain (blob bytes)) p q = length bytes
counts (tokens.begin kind) p q = 0
counts (tokens.end kind) p q = 0
counts tokens.comma p q = 0
counts tokens.colon p q = 0
counts tokens.colons p q = 0
counts t p q = q - p

-- under a limit a token is read where it counts no more, and else refused at its first byte
abbrev pub TokensWithinAreRead : Type 0
TokensWithinAreRead =
    (limit : ℕ) (sexp : Bool) (c d : Cursor) (t : Token) (p : ℕ) → Tok sexp c t p d
    → next_token (Some limit) sexp c ≡ (if nat_lt limit (counts t p d.place) then Err (ScalarLimit, p) else Ok (cut t p d))
