-- Floats, and the bits that they are kept as.
use Rattle.std.specs.Prelude.{T, Result, Ok, Err, from_bits}
use lib.Ieee.{Float, binary64, fits}
use Rattle.ion_value.specs.declared.float.Float64.{Float64}

-- the float with the bits that are kept
abbrev pub value_of : Float64 → Float
value_of float = from_bits binary64 float.bits

-- and the value of what was made, where there is one
abbrev pub values_of : {E : Type 0} → Result Float64 E → Result Float E
values_of (Ok float) = Ok (value_of float)
values_of (Err e) = Err e

-- the floats of Ion: not a number, or a number or infinity that binary64 has
abbrev pub IsFloat : Float → Type 0
IsFloat x = T (fits binary64 x)
