-- How digits at the front of text are read, one after the other.
use Rattle.std.specs.Prelude.{◌≡◌, ℕ, ◌+◌, ◌*◌, ◌^◌, ◌≤◌, ℤ, pos, ◌-ℤ◌, Bool, true, false, ◌&&◌, ◌||◌, ◌==◌, nat_lt, if◌then◌else◌, List, [], ◌∷◌, length, drop, Option, Some, None, Result, Ok, Err}
use Rattle.ion_meter.specs.declared.fault.Reason.{Reason}
use Rattle.ion_meter.specs.declared.fault.Reason.TheVariants.{BadToken, Float}
use Rattle.ion_value.specs.declared.decimal.Decimal.{Decimal}
use Rattle.ion_value.specs.declared.decimal_text.Exponent.{Exponent}
use Rattle.ion_value.specs.declared.decimal_text.Mantissa.{Mantissa}
use Rattle.ion_value.specs.declared.digits.Digits.{Digits}
use Rattle.ion_value.specs.Number.{signed}
use Rattle.ion_value.specs.Decimal.{is_exponent, decimal_in_range, is_exponent_mark, is_decimal_mark, is_power, power_value, parts_of, decimal_of_parts}
use Rattle.ion_value.specs.Digits.{is_digit, is_hex_digit, digit_value, first_is}

-- the bases whose digits are read
abbrev pub IsBase : ℕ → Type 0
IsBase base = (2 ≤ base) × (base ≤ 16)

-- the digits of such a base
abbrev pub is_digit_of : ℕ → ℕ → Bool
is_digit_of base b = is_hex_digit b && nat_lt (digit_value b) base

-- a number where 128 bits hold it
abbrev pub in_128 : ℕ → Option ℕ
in_128 n = if nat_lt n (2 ^ 128) then Some n else None

-- what was read: a number, how many digits, and the bytes after them
pub record Read : Type 0 where
  pub number : ℕ
  pub count : ℕ
  pub rest : List ℕ

-- the end of what is read, which is a digit
abbrev pub read_end : ℕ → Bool → ℕ → List ℕ → Option Read
read_end n after k bytes = if after then Some (record { number = n; count = k; rest = bytes }) else None

-- the digits of a base at the front of bytes, after a number and so many digits; whether one of them stands just before is the third argument
unfoldable pub read_digits : ℕ → ℕ → Bool → ℕ → List ℕ → Option Read
read_digits base n after k [] = read_end n after k []
read_digits base n after k (b ∷ bytes) =
    if is_digit_of base b then read_digits base (n * base + digit_value b) true (k + 1) bytes
    else (if b == 95 && after then read_digits base n false k bytes else read_end n after k (b ∷ bytes))

-- the same in base ten, of which a first zero stands alone
abbrev pub read_whole : List ℕ → Option Read
read_whole bytes =
    if first_is (λ b. b == 48) bytes && first_is (λ b. is_digit b || b == 95) (drop 1 bytes) then None
    else read_digits 10 0 false 0 bytes

-- the digits of an int in base ten, sixteen or two, whose base stands in front
abbrev pub read_int : List ℕ → Option Read
read_int bytes =
    if first_is (λ b. b == 48) bytes && first_is (λ b. b == 120 || b == 88) (drop 1 bytes) then read_digits 16 0 false 0 (drop 2 bytes)
    else (if first_is (λ b. b == 48) bytes && first_is (λ b. b == 98 || b == 66) (drop 1 bytes) then read_digits 2 0 false 0 (drop 2 bytes)
    else read_whole bytes)

-- digits after a point and the number before it, where there are any
abbrev pub read_fraction : ℕ → List ℕ → Option Read
read_fraction n bytes = if first_is is_digit bytes then read_digits 10 n false 0 bytes else Some (record { number = n; count = 0; rest = bytes })

-- an answer is what was read, and has the number where 128 bits hold it
abbrev pub Answers : Option Read → Option Digits → Type 0
Answers read None = read ≡ None
Answers read (Some d) = (n : ℕ) × (read ≡ Some (record { number = n; count = d.count; rest = d.rest.now })) × (d.number ≡ in_128 n)

-- ---- decimals

-- the decimal of a sign, the digits of a mantissa as one number, how many of them stand after a point and whether there is one, and all from the exponent's
-- mark on
abbrev pub decimal_after : Bool → ℕ → ℕ → Bool → List ℕ → Result Decimal Reason
decimal_after negative n places pointed power =
    if is_power is_decimal_mark power || (length power == 0 && pointed) then decimal_in_range negative n (power_value power -ℤ pos places)
    else (if is_power is_exponent_mark power then Err Float else Err BadToken)

-- a mantissa is what stands before the exponent's mark
abbrev pub ReadsMantissa : List ℕ → Option Mantissa → Type 0
ReadsMantissa bytes None = (negative : Bool) → decimal_of_parts negative (parts_of bytes) ≡ Err BadToken
ReadsMantissa bytes (Some m) = (n : ℕ) × (m.coefficient ≡ in_128 n)
    × ((negative : Bool) → decimal_of_parts negative (parts_of bytes) ≡ decimal_after negative n m.places m.pointed m.power.now)

-- an exponent is what stands after the mark, which is `d` here
abbrev pub ReadsExponent : List ℕ → Option Exponent → Type 0
ReadsExponent bytes None = is_power is_decimal_mark (100 ∷ bytes) ≡ false
ReadsExponent bytes (Some e) = (is_power is_decimal_mark (100 ∷ bytes) ≡ true) × ((m : ℕ) × (e.magnitude ≡ in_128 m) × (power_value (100 ∷ bytes) ≡ signed e.below m))

-- a number where it is within the range of exponents
abbrev pub GivesExponent : ℤ → Option ℤ → Type 0
GivesExponent e None = is_exponent e ≡ false
GivesExponent e (Some given) = (is_exponent e ≡ true) × (given ≡ e)

-- what stands after a mantissa is an exponent, or is none and why
abbrev pub ReadsPower : ℕ → Bool → List ℕ → Result (Option ℤ) Reason → Type 0
ReadsPower places pointed power (Ok given) = (e : ℤ) × GivesExponent e given
    × ((negative : Bool) (n : ℕ) → decimal_after negative n places pointed power ≡ decimal_in_range negative n e)
ReadsPower places pointed power (Err reason) = (negative : Bool) (n : ℕ) → decimal_after negative n places pointed power ≡ Err reason
