-- What is seen of the tokens of the code.
use Rattle.std.specs.Prelude.{◌≡◌, ℕ, ◌<◌, ◌≤◌, Bool, false, ◌&&◌, ◌||◌, ◌==◌, nat_lt, if◌then◌else◌, map, List, [], ◌∷◌, ◌++◌, length, take, drop, Option, Some, None, IfSome, option_map, Result, Ok}
use lib.Ieee.{nan}
use Rattle.ion_meter.specs.declared.fault.Reason.{Reason}
use Rattle.ion_meter.specs.Sources.{Cursor}
use Rattle.ion_value.specs.Parts.{◌>>=◌}
use Rattle.ion_value.specs.Number.{number}
use Rattle.ion_value.specs.Digits.{is_digit, digit_value, all_are, first_is}
use Rattle.ion_value.specs.declared.float.Float64.{Float64}
use Rattle.ion_value.specs.Float.{IsFloat, value_of}
use Rattle.ion_value.specs.Name.{raw_id}
use Rattle.ion_value.specs.Standing.{InRange}
use Rattle.ion_value.specs.Value as value
use Rattle.ion_value.specs.Value.{Scalar, SymbolAt}
use Rattle.ion_text_in.specs.declared.number.Number.{Number}
use Rattle.ion_text_in.specs.declared.number.Number.TheVariants as numbers
use Rattle.ion_text_in.specs.declared.number.Numeral.{Numeral}
use Rattle.ion_text_in.specs.declared.number.Numeral.TheVariants as numerals
use Rattle.ion_text_in.specs.declared.word.Word.{Word}
use Rattle.ion_text_in.specs.declared.word.Word.TheVariants as word
use Rattle.ion_text_in.specs.declared.scanned.Scanned.{Scanned}
use Rattle.ion_text_in.specs.declared.scanned.Scanned.TheVariants.{Whole, Fault, Cut}
use Rattle.ion_text_in.specs.Token as tokens
use Rattle.ion_text_in.specs.Token.{Token, plain, counted, in_word}
use Rattle.ion_text_in.specs.Places.{run_of}
use Rattle.ion_text_in.specs.Runs.{joined}

-- ---- tokens of bytes

-- the bytes of a token, of which a limit may say how many there may be, and what stands after them
abbrev pub spelled : (List ℕ → List ℕ) → Option ℕ → Cursor → Result (List ℕ × Cursor) Reason
spelled bytes limit c = counted limit (bytes c.rest) c

-- a token by its bytes
abbrev pub by_bytes : (List ℕ → List ℕ) → (List ℕ → Result Token Reason) → Option ℕ → Cursor → Result (Token × Cursor) Reason
by_bytes bytes meaning limit c = spelled bytes limit c >>= (λ r. meaning r.0 >>= (λ t. Ok (t, r.1)))

-- a slice shows so many bytes of a token, and that there are no more, whatever follows the slice
pub record AreShown (bytes : List ℕ → List ℕ) (slice : List ℕ) (n : ℕ) : Type 0 where
  pub within : n < length slice
  pub same : (more : List ℕ) → bytes (slice ++ more) ≡ take n slice

-- what holds of what a slice shows
abbrev pub IfWhole : {T : Type 0} → Scanned T → (T → Type 0) → Type 0
IfWhole (Whole x n) P = P x
IfWhole (Fault reason) P = Unit {0}
IfWhole Cut P = Unit {0}

-- a token that a slice shows has at most so many bytes
abbrev pub IsWithin : {T : Type 0} → ℕ → Scanned T → Type 0
IsWithin limit (Whole x n) = n ≤ limit
IsWithin limit (Fault reason) = Unit {0}
IsWithin limit Cut = Unit {0}

-- the bytes of a token that a slice shows
abbrev pub shown_text : {T : Type 0} → List ℕ → Scanned T → List ℕ
shown_text slice (Whole x n) = take n slice
shown_text slice (Fault reason) = []
shown_text slice Cut = []

-- ---- numbers and timestamps

-- a number or timestamp from the code, as a scalar
abbrev pub as_number : Number → Scalar SymbolAt
as_number (numbers.Int int) = value.int int
as_number (numbers.Decimal decimal) = value.decimal decimal
as_number (numbers.Timestamp timestamp) = value.timestamp timestamp

-- a number or timestamp from the code, as a token
abbrev pub number_token : Number → Token
number_token x = plain (as_number x)

-- a number, timestamp or float from the code, as a token
abbrev pub numeral_token : Numeral → Token
numeral_token (numerals.Number x) = number_token x
numeral_token (numerals.Float x) = tokens.float (option_map value_of x)

-- a number, timestamp or float of this library
abbrev pub NumeralInRange : Numeral → Type 0
NumeralInRange (numerals.Number x) = InRange (as_number x)
NumeralInRange (numerals.Float x) = IfSome x (λ f. IsFloat (value_of f))

-- an infinity from the code, as a token
abbrev pub infinity_token : Float64 → Token
infinity_token x = tokens.float (Some (value_of x))

-- ---- words

-- the bytes of a symbol standing beside it
abbrev pub word_token_of : List ℕ → Word → Token
word_token_of text (word.Null type) = plain (value.null type)
word_token_of text (word.Bool truth) = plain (value.bool truth)
word_token_of text word.Nan = tokens.float (Some nan)
word_token_of text (word.Id id) = tokens.name false (value.Id id)
word_token_of text word.Name = tokens.name false (value.Text text)

-- a word begins as a keyword does
abbrev pub may_be_keyword : List ℕ → Bool
may_be_keyword [] = false
may_be_keyword (b ∷ bytes) = 110 == b || 116 == b || 102 == b

-- the id that digits spell, where there are any and nothing else
abbrev pub id_in : List ℕ → Option ℕ
id_in digits = if nat_lt 0 (length digits) && all_are is_digit digits then Some (raw_id (number 10 (map digit_value digits))) else None

-- there is a byte, and it is a point
abbrev pub is_point : Option ℕ → Bool
is_point (Some b) = b == 46
is_point None = false

-- a word before a point, where one stands here, with the point and the name after it
abbrev pub with_name : Option ℕ → List ℕ → Cursor → Result (List ℕ × Cursor) Reason
with_name limit before c =
    if first_is (λ b. b == 46) c.rest then joined limit before (46 ∷ (run_of in_word (drop 1 c.rest)).0) c else Ok (before, c)
