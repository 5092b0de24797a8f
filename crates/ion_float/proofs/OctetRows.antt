-- The octets of some floats, as they are written and as they are read.
use Rattle.std.proofs.Common.{◌≡◌, refl, [], ◌∷◌, Some, None, false, from_bits}
use lib.Ieee.{nan, inf, binary64, to_bits, of_bits, fits}
use Rattle.ion_value.specs.FloatOctets.{float_of_octets, float_octets}

zero_octets : float_octets (from_bits binary64 0) ≡ []
unfolding to_bits of_bits fits
zero_octets = refl

minus_zero : float_octets (from_bits binary64 0x8000000000000000) ≡ 0x80 ∷ 0 ∷ 0 ∷ 0 ∷ []
unfolding to_bits of_bits fits
minus_zero = refl

one_and_a_half : float_octets (from_bits binary64 0x3FF8000000000000) ≡ 0x3F ∷ 0xC0 ∷ 0 ∷ 0 ∷ []
unfolding to_bits of_bits fits
one_and_a_half = refl

no_number : float_octets (from_bits binary64 0xFFF8000000000001) ≡ 0x7F ∷ 0xC0 ∷ 0 ∷ 0 ∷ []
unfolding to_bits of_bits fits
no_number = refl

infinite : float_octets (from_bits binary64 0xFFF0000000000000) ≡ 0xFF ∷ 0x80 ∷ 0 ∷ 0 ∷ []
unfolding to_bits of_bits fits
infinite = refl

a_tenth : float_octets (from_bits binary64 0x3FB999999999999A) ≡ 0x3F ∷ 0xB9 ∷ 0x99 ∷ 0x99 ∷ 0x99 ∷ 0x99 ∷ 0x99 ∷ 0x9A ∷ []
unfolding to_bits of_bits fits
a_tenth = refl

-- the least of binary32, and one that is half of it
least_narrow : float_octets (from_bits binary64 0x36A0000000000000) ≡ 0 ∷ 0 ∷ 0 ∷ 1 ∷ []
unfolding to_bits of_bits fits
least_narrow = refl

below_narrow : float_octets (from_bits binary64 0x3690000000000000) ≡ 0x36 ∷ 0x90 ∷ 0 ∷ 0 ∷ 0 ∷ 0 ∷ 0 ∷ 0 ∷ []
unfolding to_bits of_bits fits
below_narrow = refl

-- two to 128, which binary32 has not
above_narrow : float_octets (from_bits binary64 0x47F0000000000000) ≡ 0x47 ∷ 0xF0 ∷ 0 ∷ 0 ∷ 0 ∷ 0 ∷ 0 ∷ 0 ∷ []
unfolding to_bits of_bits fits
above_narrow = refl

-- ---- reading

read-none : float_of_octets [] ≡ Some (from_bits binary64 0)
unfolding of_bits
read-none = refl

read-four : float_of_octets (0xBF ∷ 0xC0 ∷ 0 ∷ 0 ∷ []) ≡ Some (from_bits binary64 0xBFF8000000000000)
unfolding of_bits
read-four = refl

read-no_number : float_of_octets (0xFF ∷ 0x80 ∷ 0 ∷ 1 ∷ []) ≡ Some nan
unfolding of_bits
read-no_number = refl

read-eight : float_of_octets (0x7F ∷ 0xF0 ∷ 0 ∷ 0 ∷ 0 ∷ 0 ∷ 0 ∷ 0 ∷ []) ≡ Some (inf false)
unfolding of_bits
read-eight = refl

read-three : float_of_octets (0 ∷ 0 ∷ 0 ∷ []) ≡ None
read-three = refl
