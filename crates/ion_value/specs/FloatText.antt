-- Floats in text (Ion specification, "Real Numbers").
use Rattle.std.specs.Prelude.{ℕ, zero, suc, ◌+◌, ◌-◌, ℤ, pos, ◌-ℤ◌, Bool, true, false, ◌&&◌, ◌||◌, ◌==◌, if◌then◌else◌, List, [], ◌∷◌, ◌++◌, length, filter, codes, decimal, Option, Some, None, Result, Ok, Err, to_bits}
use Rattle.std.specs.Str.{bytes_eq}
use lib.Ieee.{Float, nan, inf, fin, binary64}
use Rattle.fast_float.specs.Rounding.{nearest_to_decimal}
use Rattle.ion_meter.specs.declared.fault.Reason.{Reason}
use Rattle.ion_meter.specs.declared.fault.Reason.TheVariants.{BadToken, Range}
use Rattle.ion_value.specs.Digits.{is_digit, digits_value, has_minus, without_minus}
use Rattle.ion_value.specs.Decimal.{integer_text, Parts, parts_of, is_mantissa, is_power, power_value, fraction_digits}
use Rattle.ion_value.specs.Shortest.{shortest}

-- ---- as it is written

-- digits, and a point after the first where there are more
abbrev pub pointed : List ℕ → List ℕ
pointed [] = []
pointed (d ∷ []) = d ∷ []
pointed (d ∷ e ∷ ds) = d ∷ 46 ∷ e ∷ ds

-- the exponent of a number of so many digits whose last counts 10 ^ (row - 342), with the point after the first
abbrev pub exponent_of : ℕ → ℕ → ℤ
exponent_of count row = pos (row + (count - 1)) -ℤ pos 342

-- such a number: its digits with a point, `e`, and the exponent
abbrev pub digits_text : ℕ × ℕ → List ℕ
digits_text d = pointed (decimal d.0) ++ (101 ∷ integer_text (exponent_of (length (decimal d.0)) d.1))

-- a number at least zero: `0e0`, or the fewest digits that read as it, and of these the nearest
abbrev pub magnitude_text : ℕ → ℤ → List ℕ
magnitude_text zero e = codes "0e0"
magnitude_text (suc m) e = digits_text (shortest (to_bits binary64 (fin false (suc m) e)))

-- a float's text
abbrev pub float_text : Float → List ℕ
float_text nan = codes "nan"
float_text (inf false) = codes "+inf"
float_text (inf true) = codes "-inf"
float_text (fin false m e) = magnitude_text m e
float_text (fin true m e) = 45 ∷ magnitude_text m e

-- ---- as it is read

-- `e` or `E`, with which the exponent of a float begins
abbrev pub is_float_mark : ℕ → Bool
is_float_mark b = b == 101 || b == 69

-- parts that are a float: digits of which a first zero stands alone, a point and digits or none, and an exponent after `e`
abbrev pub is_float : Parts → Bool
is_float p = is_mantissa p && is_power is_float_mark p.power

-- a float where it is finite
abbrev pub finite : Float → Result Float Reason
finite nan = Err Range
finite (inf s) = Err Range
finite (fin s m e) = Ok (fin s m e)

-- all digits are a coefficient, which counts ten to the written exponent less the number of digits after the point: the float is the one
-- nearest to that, the even one of two, or `Range` where it is infinite
abbrev pub float_of_parts : Bool → Parts → Result Float Reason
float_of_parts negative p =
    if is_float p
    then finite (nearest_to_decimal binary64 negative (digits_value 10 (filter is_digit p.whole ++ fraction_digits p.fraction))
    (power_value p.power -ℤ pos (length (fraction_digits p.fraction))))
    else Err BadToken

-- the floats that are written as words
abbrev pub float_word : List ℕ → Option Float
float_word run =
    if bytes_eq run (codes "nan") then Some nan
    else (if bytes_eq run (codes "+inf") then Some (inf false)
    else (if bytes_eq run (codes "-inf") then Some (inf true) else None))

-- a float that was found, or else what is made of the parts
abbrev pub or_else : Option Float → Result Float Reason → Result Float Reason
or_else (Some x) parts = Ok x
or_else None parts = parts

-- the float that a run of text spells, or why it is none
unfoldable pub float_of_text : List ℕ → Result Float Reason
float_of_text run = or_else (float_word run) (float_of_parts (has_minus run) (parts_of (without_minus run)))
