-- What the code keeps of the fields of a timestamp's body, numbers where the definition keeps their octets, and in which steps it writes one.
use Rattle.std.specs.Prelude.{◌≡◌, ℕ, ◌+◌, ◌^◌, ◌||◌, nat_le, nat_lt, if◌then◌else◌, List, [], ◌∷◌, ◌++◌, take, map, Option, Some, None, Result, Err}
use Rattle.ion_meter.specs.declared.fault.Reason.{Reason}
use Rattle.ion_meter.specs.declared.fault.Reason.TheVariants.{Range}
use Rattle.ion_value.specs.declared.timestamp.Precision.{Precision}
use Rattle.ion_value.specs.declared.timestamp.Precision.TheVariants.{Year, Month, Day, Minute, Second, Fraction}
use Rattle.ion_value.specs.declared.timestamp.Timestamp.{Timestamp}
use Rattle.ion_value.specs.declared.var.Signed.{Signed}
use Rattle.ion_value.specs.Number.{var_int_negative, var_int_magnitude, int_magnitude, var_uint_octets}
use Rattle.ion_value.specs.Timestamp.{is_moment, fields, second_precision, digits_after_point, is_fraction, timestamp_in_utc, offset_octets}

-- the octets of a VarInt have this sign and magnitude, and no octets have those of zero
pub record Spells (z : Signed) (octets : List ℕ) : Type 0 where
  pub sign : z.negative ≡ var_int_negative octets
  pub magnitude : z.magnitude ≡ var_int_magnitude octets

-- the first field, and no octets where there is none
abbrev pub first_field : List (List ℕ) → List ℕ
first_field [] = []
first_field (field ∷ fields) = field

-- what the numbers of the fields after the offset tell, in UTC
abbrev pub utc_of_numbers : List ℕ → ℕ → ℕ → Option Timestamp
utc_of_numbers (y ∷ []) digits c = Some (fields Year y 1 1 0 0 0 0)
utc_of_numbers (y ∷ m ∷ []) digits c = Some (fields Month y m 1 0 0 0 0)
utc_of_numbers (y ∷ m ∷ d ∷ []) digits c = Some (fields Day y m d 0 0 0 0)
utc_of_numbers (y ∷ m ∷ d ∷ h ∷ i ∷ []) digits c = Some (fields Minute y m d h i 0 0)
utc_of_numbers (y ∷ m ∷ d ∷ h ∷ i ∷ s ∷ []) digits c = Some (fields (second_precision digits) y m d h i s c)
utc_of_numbers _ digits c = None

-- a timestamp where there is such a date and time, and else none
abbrev pub if_moment : Timestamp → Option Timestamp
if_moment t = if is_moment t then Some t else None

-- the timestamp of an offset, the numbers after it, an exponent and a coefficient, or why it is none
abbrev pub timestamp_of_parts : List ℕ → List ℕ → List ℕ → List ℕ → Result Timestamp Reason
timestamp_of_parts o numbers e c =
    if nat_le (2 ^ 128) (int_magnitude c) || nat_lt 38 (digits_after_point e) then Err Range
    else timestamp_in_utc o (is_fraction e c) (utc_of_numbers numbers (digits_after_point e) (int_magnitude c))

-- how many of the month, day, hour, minute and second a precision tells
abbrev pub parts_told : Precision → ℕ
parts_told Year = 0
parts_told Month = 1
parts_told Day = 2
parts_told Minute = 4
parts_told Second = 5
parts_told (Fraction n) = 5

-- the body of a timestamp in UTC without its fraction
abbrev pub whole_octets : Timestamp → List ℕ
whole_octets t =
    (offset_octets t.offset ++ var_uint_octets t.year)
    ++ map (λ n. n + 128) (take (parts_told t.precision) (t.month ∷ t.day ∷ t.hour ∷ t.minute ∷ t.second ∷ []))
