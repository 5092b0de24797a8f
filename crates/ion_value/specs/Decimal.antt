-- Decimals: their range, and how they are spelled in octets and in text.
use Rattle.std.specs.Prelude.{ℕ, ◌+◌, ◌-◌, ◌/◌, ◌^◌, ◌<◌, ℤ, pos, negsuc, neg_ℤ, ◌-ℤ◌, ◌≤ℤ◌, int_le, Bool, true, false, not, ◌&&◌, ◌||◌, ◌==◌, nat_lt, if◌then◌else◌, List, [], ◌∷◌, ◌++◌, length, drop, filter, decimal, Option, Some, None, Result, Ok, Err}
use Rattle.ion_meter.specs.declared.fault.Reason.{Reason}
use Rattle.ion_meter.specs.declared.fault.Reason.TheVariants.{BadVar, BadToken, Range, Float}
use Rattle.ion_value.specs.declared.decimal.Decimal.{Decimal}
use Rattle.ion_value.specs.declared.var.Signed.{Signed}
use Rattle.ion_value.specs.Number.{VarInt, var_int_negative, var_int_magnitude, int_negative, int_magnitude, signed, var_cut, var_int_octets, coefficient_octets}
use Rattle.ion_value.specs.Digits.{is_digit, are_digits, digits_value, first_is, all_are, is_whole, has_minus, without_minus, cut_at, fixed_digits}

-- the exponents that decimals may have
abbrev pub IsExponent : ℤ → Type 0
IsExponent e = (neg_ℤ (pos (2 ^ 31 - 1)) ≤ℤ e) × (e ≤ℤ pos (2 ^ 31 - 1))

-- whether decimals may have this exponent
abbrev pub is_exponent : ℤ → Bool
is_exponent e = int_le (neg_ℤ (pos (2 ^ 31 - 1))) e && int_le e (pos (2 ^ 31 - 1))

-- the decimals of this library: a coefficient of at most 128 bits, of which zero has a sign too, and an exponent within 2^31 - 1
pub record IsDecimal (d : Decimal) : Type 0 where
  pub coefficient : d.coefficient < 2 ^ 128
  pub exponent : IsExponent d.exponent

-- the decimal of a sign (true for minus), a magnitude and an exponent, or `Range` where not both are in range
abbrev pub decimal_in_range : Bool → ℕ → ℤ → Result Decimal Reason
decimal_in_range negative n e =
    if nat_lt n (2 ^ 128) && is_exponent e then Ok (record { negative = negative; coefficient = n; exponent = e }) else Err Range

-- ---- in octets (binary encoding, "5: decimal")

-- positive zero with the exponent 0, which a body of no octets spells
abbrev pub zero_decimal : Decimal
zero_decimal = record { negative = false; coefficient = 0; exponent = pos 0 }

-- the octets of a decimal: none of 0d0, else the exponent as a VarInt and the coefficient as an Int, of which no octets are positive zero
pub data DecimalBody : Decimal → List ℕ → Type 0 where
  nothing : DecimalBody zero_decimal []
  parts : (z : Signed) (e c : List ℕ) → VarInt z e
      → DecimalBody (record { negative = int_negative c; coefficient = int_magnitude c; exponent = signed z.negative z.magnitude }) (e ++ c)

-- the decimal whose body this is, or why it is none
abbrev pub decimal_of_cut : Option (List ℕ × List ℕ) → Result Decimal Reason
decimal_of_cut None = Err BadVar
decimal_of_cut (Some cut) =
    decimal_in_range (int_negative cut.1) (int_magnitude cut.1) (signed (var_int_negative cut.0) (var_int_magnitude cut.0))

-- the same of the body's octets, not yet cut in two
unfoldable pub decimal_of_bytes : List ℕ → Result Decimal Reason
decimal_of_bytes [] = Ok zero_decimal
decimal_of_bytes (b ∷ body) = decimal_of_cut (var_cut 9 (b ∷ body))

-- the sign and the magnitude of an exponent as the shortest VarInt
abbrev pub exponent_octets : ℤ → List ℕ
exponent_octets (pos n) = var_int_octets false n
exponent_octets (negsuc n) = var_int_octets true (1 + n)

-- 0d0
abbrev pub is_nothing : Decimal → Bool
is_nothing d = not d.negative && d.coefficient == 0 && is_zero d.exponent
  where
    is_zero : ℤ → Bool
    is_zero (pos n) = n == 0
    is_zero (negsuc n) = false

-- the shortest body of a decimal
unfoldable pub decimal_body : Decimal → List ℕ
decimal_body d = if is_nothing d then [] else exponent_octets d.exponent ++ coefficient_octets d.negative d.coefficient

-- ---- in text (Ion specification, "Real Numbers")

-- `d`, `D`, `e` or `E`, with which the exponent of a decimal or a float begins
abbrev pub is_exponent_mark : ℕ → Bool
is_exponent_mark b = b == 100 || b == 68 || b == 101 || b == 69

-- `d` or `D`, with which the exponent of a decimal begins
abbrev pub is_decimal_mark : ℕ → Bool
is_decimal_mark b = b == 100 || b == 68

-- `.`, which stands before the digits of a fraction
abbrev pub is_point : ℕ → Bool
is_point b = b == 46

-- a number's text after its sign: what stands before the point, from there to the exponent's mark, and all from the mark on
pub record Parts : Type 0 where
  pub whole : List ℕ
  pub fraction : List ℕ
  pub power : List ℕ

-- such a text in its parts: cut at the first exponent's mark, and what stands before that at the first point
unfoldable pub parts_of : List ℕ → Parts
parts_of bytes =
    let mark = cut_at is_exponent_mark bytes in
    let point = cut_at is_point mark.0 in
    record { whole = point.0; fraction = point.1; power = mark.1 }

-- nothing, a point, or a point and digits
abbrev pub is_fraction : List ℕ → Bool
is_fraction [] = true
is_fraction (point ∷ []) = true
is_fraction (point ∷ d ∷ ds) = are_digits is_digit (d ∷ ds)

-- whether bytes begin with a sign, `+` or `-`
abbrev pub has_sign : List ℕ → Bool
has_sign bytes = first_is (λ b. b == 43 || b == 45) bytes

-- what stands after the mark of an exponent, and after its sign where it has one
abbrev pub power_digits : List ℕ → List ℕ
power_digits bytes = if has_sign (drop 1 bytes) then drop 2 bytes else drop 1 bytes

-- whether bytes are an exponent: a mark for which the test holds, a sign or none, and one digit or more
abbrev pub is_power : (ℕ → Bool) → List ℕ → Bool
is_power mark bytes = first_is mark bytes && nat_lt 0 (length (power_digits bytes)) && all_are is_digit (power_digits bytes)

-- the exponent that is written, 0 where none is
abbrev pub power_value : List ℕ → ℤ
power_value bytes = signed (first_is (λ b. b == 45) (drop 1 bytes)) (digits_value 10 (power_digits bytes))

-- the digits after the point
abbrev pub fraction_digits : List ℕ → List ℕ
fraction_digits bytes = filter is_digit bytes

-- whether the parts before the exponent are well formed: `0` or digits that do not begin with it, and a fraction or none
abbrev pub is_mantissa : Parts → Bool
is_mantissa p = is_whole p.whole && is_fraction p.fraction

-- with an exponent after `d`, or with a point and no exponent
abbrev pub is_decimal : Parts → Bool
is_decimal p = is_mantissa p && (is_power is_decimal_mark p.power || (length p.power == 0 && nat_lt 0 (length p.fraction)))

-- with an exponent after `e`
abbrev pub is_float : Parts → Bool
is_float p = is_mantissa p && is_power is_exponent_mark p.power

-- all digits are the coefficient, and the exponent is the one that is written less the number of digits after the point
abbrev pub decimal_of_parts : Bool → Parts → Result Decimal Reason
decimal_of_parts negative p =
    if is_decimal p
    then decimal_in_range negative (digits_value 10 (filter is_digit p.whole ++ fraction_digits p.fraction)) (power_value p.power -ℤ pos (length (fraction_digits p.fraction)))
    else (if is_float p then Err Float else Err BadToken)

-- the decimal that a run of text spells, or why it is none
unfoldable pub decimal_of_text : List ℕ → Result Decimal Reason
decimal_of_text run = decimal_of_parts (has_minus run) (parts_of (without_minus run))

-- a whole number in decimal digits, with a minus in front where it is below zero
abbrev pub integer_text : ℤ → List ℕ
integer_text (pos n) = decimal n
integer_text (negsuc n) = 45 ∷ decimal (1 + n)

-- a number with a point before its last k digits: what is before the point, and k digits after it, zeros in front of them where it has fewer
abbrev pub pointed_text : ℕ → ℕ → List ℕ
pointed_text n k = decimal (n / 10 ^ k) ++ (46 ∷ fixed_digits k n)

-- a number, `d`, and an exponent
abbrev pub power_text : ℕ → ℤ → List ℕ
power_text n e = decimal n ++ (100 ∷ integer_text e)

-- the most digits that are written after a point, which is as many as 128 bits hold whichever they are
abbrev pub most_places : ℕ
most_places = 38

-- exponents from 0 down to -38 are shown by a point, and all others after a `d`
abbrev pub magnitude_text : ℕ → ℤ → List ℕ
magnitude_text n (pos e) = if e == 0 then decimal n ++ (46 ∷ []) else power_text n (pos e)
magnitude_text n (negsuc e) = if nat_lt e most_places then pointed_text n (1 + e) else power_text n (negsuc e)

-- a minus where there is one, and the coefficient with its exponent
abbrev pub decimal_text : Decimal → List ℕ
decimal_text d = (if d.negative then 45 ∷ [] else []) ++ magnitude_text d.coefficient d.exponent
