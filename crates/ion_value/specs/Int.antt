-- What an int's sign and magnitude stand for, and how ints are spelled.
use Rattle.std.specs.Prelude.{ℕ, ◌^◌, ◌<◌, Bool, ◌&&◌, ◌||◌, ◌==◌, nat_le, nat_lt, List, [], ◌∷◌, ◌++◌, drop, IsTrue, decimal, if◌then◌else◌, Result, Ok, Err}
use Rattle.ion_meter.specs.declared.fault.Reason.{Reason}
use Rattle.ion_meter.specs.declared.fault.Reason.TheVariants.{BadNumber, BadToken, Range}
use Rattle.ion_value.specs.declared.int.Int.{Int}
use Rattle.ion_value.specs.Number.{uint}
use Rattle.ion_value.specs.Digits.{is_hex_digit, is_binary_digit, are_digits, digits_value, is_whole, first_is, has_minus, without_minus}

-- zero is positive, since there is no negative zero (binary encoding, "2 and 3: int"), and the magnitude fits 128 bits
pub record IsInt (i : Int) : Type 0 where
  pub positive_zero : IsTrue i.negative → 0 < i.magnitude
  pub fits : i.magnitude < 2 ^ 128

-- the int of a sign and the octets of its magnitude, or why there is none (binary encoding, "2 and 3: int")
abbrev pub int_of_bytes : Bool → List ℕ → Result Int Reason
int_of_bytes negative body =
    if nat_le (2 ^ 128) (uint body) then Err Range
    else (if negative && (uint body == 0) then Err BadNumber else Ok (record { negative = negative; magnitude = uint body }))

-- a minus where the int is negative, and the decimal digits of its magnitude (Ion specification, "Integers")
abbrev pub int_text : Int → List ℕ
int_text i = (if i.negative then 45 ∷ [] else []) ++ decimal i.magnitude

-- the int of a sign and a magnitude, of which zero has no sign
abbrev pub int_in_range : Bool → ℕ → Result Int Reason
int_in_range negative n = if nat_lt n (2 ^ 128) then Ok (record { negative = negative && nat_lt 0 n; magnitude = n }) else Err Range

-- `0` and a letter in either case, and digits of the letter's base after it
abbrev pub is_based : ℕ → ℕ → (ℕ → Bool) → List ℕ → Bool
is_based lower upper digit bytes =
    first_is (λ b. b == 48) bytes && first_is (λ b. b == lower || b == upper) (drop 1 bytes) && are_digits digit (drop 2 bytes)

-- what stands after the sign: an int in base ten, sixteen or two
abbrev pub int_of_digits : Bool → List ℕ → Result Int Reason
int_of_digits negative bytes =
    if is_whole bytes then int_in_range negative (digits_value 10 bytes)
    else (if is_based 120 88 is_hex_digit bytes then int_in_range negative (digits_value 16 (drop 2 bytes))
    else (if is_based 98 66 is_binary_digit bytes then int_in_range negative (digits_value 2 (drop 2 bytes))
    else Err BadToken))

-- the int that a run of text spells (Ion specification, "Integers"), or why it is none
unfoldable pub int_of_text : List ℕ → Result Int Reason
int_of_text run = int_of_digits (has_minus run) (without_minus run)
