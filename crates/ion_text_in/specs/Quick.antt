-- Numbers that are read in one pass.
use Rattle.std.specs.Prelude.{◌≡◌, ℕ, ◌+◌, ◌-◌, ◌*◌, ◌<◌, ◌≤◌, ℤ, Option, Some, None, Bool, true, false, ◌&&◌, ◌||◌, ◌==◌, nat_lt, if◌then◌else◌, List, [], ◌∷◌, ◌++◌, length, take, drop, get_or, filter, codes, Ok}
use Rattle.ion_value.specs.declared.decimal.Decimal.{Decimal}
use Rattle.ion_value.specs.declared.int.Int.{Int}
use Rattle.ion_value.specs.declared.float.Float64.{Float64}
use Rattle.ion_value.specs.Decimal.{Parts, parts_of, fraction_digits, is_exponent_mark, is_mantissa}
use Rattle.ion_value.specs.Digits.{is_digit, all_are, digits_value, first_is, has_minus}
use Rattle.ion_value.specs.Float.{IsFloat, value_of}
use Rattle.ion_value.specs.Name.{is_one_of}
use Rattle.ion_value.specs.PlainItems.{IsTextOf}
use Rattle.ion_value.specs.Standing.{InRange}
use Rattle.ion_value.specs.Value.{whole}
use Rattle.ion_text_in.specs.declared.number.Number.{Number}
use Rattle.ion_text_in.specs.declared.number.Number.TheVariants as numbers
use Rattle.ion_text_in.specs.declared.number.Numeral.TheVariants as numerals
use Rattle.ion_text_in.specs.declared.quick.Mantissa.{Mantissa}
use Rattle.ion_text_in.specs.declared.quick.Power.{Power}
use Rattle.ion_text_in.specs.declared.quick.Quick.{Quick}
use Rattle.ion_text_in.specs.declared.run.Run.TheVariants as run
use Rattle.ion_text_in.specs.Blanks.{is_white}
use Rattle.ion_text_in.specs.Runs.{stays}
use Rattle.ion_text_in.specs.Token.{in_run, run_token}
use Rattle.ion_text_in.specs.Views.{as_number, number_token, numeral_token}

-- a minus or none, and what stands after it
abbrev pub signed_text : Bool → List ℕ → List ℕ
signed_text negative text = (if negative then 45 ∷ [] else []) ++ text

-- the int of a sign and a magnitude, of which zero has no sign
abbrev pub signed_int : Bool → ℕ → Int
signed_int negative n = record { negative = negative && nat_lt 0 n; magnitude = n }

-- the decimal of a sign, digits and an exponent
abbrev pub scaled : Bool → ℕ → ℤ → Decimal
scaled negative n e = record { negative = negative; coefficient = n; exponent = e }

-- the number of a sign, digits, and an exponent or none
abbrev pub number_by : Bool → ℕ → Option ℤ → Number
number_by negative n (Some e) = numbers.Decimal (scaled negative n e)
number_by negative n None = numbers.Int (signed_int negative n)

-- a number that was read in one pass: a decimal where it has an exponent, and else an int
abbrev pub as_quick : Quick → Number
as_quick x = number_by x.negative x.number x.exponent

-- the number that digits spell after another
abbrev pub number_after : ℕ → List ℕ → ℕ
number_after n [] = n
number_after n (digit ∷ digits) = number_after (n * 10 + (digit - 48)) digits

-- punctuation, a quote or white space, which end a number whatever follows them
abbrev pub stops : ℕ → Bool
stops b = is_one_of (codes "{}[](),\"'") b || is_white b

-- so many bytes in front are digits, of which a first zero stands alone, and another byte stands after them
pub record AreWhole (bytes : List ℕ) (count : ℕ) : Type 0 where
  pub some : 0 < count
  pub within : count < length bytes
  pub digits : all_are is_digit (take count bytes) ≡ true
  pub no_zeros : (first_is (λ b. b == 48) bytes && first_is (λ b. is_digit b || b == 95) (drop 1 bytes)) ≡ false

-- parts spell a number, so many digits of which stand after a point, and this is all from the exponent's mark on
pub record AreSpelling (p : Parts) (number places : ℕ) (power : List ℕ) : Type 0 where
  pub mantissa : is_mantissa p ≡ true
  pub digits : digits_value 10 (filter is_digit p.whole ++ fraction_digits p.fraction) ≡ number
  pub fraction : length (fraction_digits p.fraction) ≡ places
  pub exponent : p.power ≡ power

-- so many bytes in front are digits, some of which may stand after a point, and spell a number; after them an exponent may come
pub record IsMantissa (bytes : List ℕ) (number places count : ℕ) : Type 0 where
  pub some : 0 < count
  pub within : count < length bytes
  pub few : places ≤ 19
  pub goes : all_are (stays run.Number) (take count bytes) ≡ true
  pub plain : (power : List ℕ) → has_minus (take count bytes ++ power) ≡ false
  pub parts : (mark : ℕ) (power : List ℕ) → is_exponent_mark mark ≡ true → AreSpelling (parts_of (take count bytes ++ mark ∷ power)) number places (mark ∷ power)

-- a point stands after so many digits, and digits after it, which with these are at most nineteen
pub record IsPointed (bytes : List ℕ) (count : ℕ) (x : Mantissa) : Type 0 where
  pub some : 0 < x.places
  pub few : count + x.places ≤ 19
  pub end : x.end ≡ count + 1 + x.places
  pub within : x.end < length bytes
  pub digits : all_are is_digit (take x.places (drop (count + 1) bytes)) ≡ true
  pub number : x.number ≡ number_after (number_after 0 (take count bytes)) (take x.places (drop (count + 1) bytes))

-- a sign or none and at most three digits stand after a mark at a place, and a byte that stops them
pub record IsPower (bytes : List ℕ) (mark : ℕ) (x : Power) : Type 0 where
  pub written : List ℕ
  pub after : mark < x.end
  pub some : 0 < length written
  pub digits : all_are is_digit written ≡ true
  pub number : x.magnitude ≡ number_after 0 written
  pub small : x.magnitude < 1000
  pub text : take x.end bytes ≡ take mark bytes ++ get_or bytes mark 0 ∷ signed_text x.below written
  pub within : x.end < length bytes
  pub stop : stops (get_or bytes x.end 0) ≡ true

-- some bytes are the canonical text of the number that was read of them where it says so, which it does of each int
pub record AreSpelled (bytes : List ℕ) (x : Quick) : Type 0 where
  pub int : x.exponent ≡ None → x.canonical ≡ true
  pub text : x.canonical ≡ true → IsTextOf bytes (whole (as_number (as_quick x)))

-- so many bytes after a sign are a number, and a byte that stops it stands after them
pub record IsQuick (negative : Bool) (bytes : List ℕ) (x : Quick) : Type 0 where
  pub sign : x.negative ≡ negative
  pub some : 0 < x.count
  pub within : x.count < length bytes
  pub goes : all_are (stays run.Number) (take x.count bytes) ≡ true
  pub ends : (more : List ℕ) → in_run (drop x.count bytes ++ more) ≡ false
  pub gives : run_token (signed_text negative (take x.count bytes)) ≡ Ok (number_token (as_quick x))
  pub range : InRange (as_number (as_quick x))
  pub spelled : AreSpelled (signed_text negative (take x.count bytes)) x

-- so many bytes after a sign are a float, and a byte that stops it stands after them
pub record IsQuickFloat (negative : Bool) (bytes : List ℕ) (x : Float64) (count : ℕ) : Type 0 where
  pub some : 0 < count
  pub within : count < length bytes
  pub goes : all_are (stays run.Number) (take count bytes) ≡ true
  pub ends : (more : List ℕ) → in_run (drop count bytes ++ more) ≡ false
  pub gives : run_token (signed_text negative (take count bytes)) ≡ Ok (numeral_token (numerals.Float (Some x)))
  pub range : IsFloat (value_of x)
