-- Floats in octets (binary encoding, "4: float").
use Rattle.std.specs.Prelude.{ℕ, pos, Bool, true, false, ◌==◌, if◌then◌else◌, List, [], length, Option, Some, None, from_bits, to_bits}
use Rattle.std.specs.Int.{w32, w64, from_be_bytes, to_be_bytes}
use lib.Ieee.{Float, nan, inf, fin, binary32, binary64, fits}

-- 0e0
abbrev pub positive_zero : Float
positive_zero = fin false 0 (pos 0)

-- the float that octets spell, the first of which counts most: none are 0e0, four are a binary32 and eight a binary64
abbrev pub float_of_octets : List ℕ → Option Float
float_of_octets octets =
    if length octets == 0 then Some positive_zero
    else (if length octets == 4 then Some (from_bits binary32 (from_be_bytes w32 octets))
    else (if length octets == 8 then Some (from_bits binary64 (from_be_bytes w64 octets))
    else None))

-- whether a float is 0e0
abbrev pub is_positive_zero : Float → Bool
is_positive_zero nan = false
is_positive_zero (inf s) = false
is_positive_zero (fin true m e) = false
is_positive_zero (fin false m e) = m == 0

-- the fewest octets of a float: none of 0e0, four where a binary32 has the value, and eight elsewhere
abbrev pub float_octets : Float → List ℕ
float_octets x =
    if is_positive_zero x then []
    else (if fits binary32 x then to_be_bytes w32 (to_bits binary32 x)
    else to_be_bytes w64 (to_bits binary64 x))
