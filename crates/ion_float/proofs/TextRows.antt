-- The text of some floats, as it is written and as it is read.
use Rattle.std.proofs.Common.{◌≡◌, refl, true, false, codes, from_bits, Ok, Err}
use Rattle.std.specs.Fmt.{digits}
use lib.Ieee.{nan, inf, binary64, round, to_bits, of_bits}
use Rattle.ion_meter.specs.declared.fault.Reason.TheVariants.{BadToken, Range}
use Rattle.ion_value.specs.Decimal.{parts_of}
use Rattle.ion_value.specs.Digits.{cut_at}
use Rattle.ion_value.specs.Shortest.{reads_as, search, shortest}
use Rattle.ion_value.specs.FloatText.{float_text, float_of_text}

one : float_text (from_bits binary64 0x3FF0000000000000) ≡ codes "1e0"
unfolding shortest search reads_as round to_bits of_bits digits
one = refl

one_and_a_half : float_text (from_bits binary64 0x3FF8000000000000) ≡ codes "1.5e0"
unfolding shortest search reads_as round to_bits of_bits digits
one_and_a_half = refl

a_tenth : float_text (from_bits binary64 0x3FB999999999999A) ≡ codes "1e-1"
unfolding shortest search reads_as round to_bits of_bits digits
a_tenth = refl

avogadro : float_text (from_bits binary64 4962933279127225623) ≡ codes "6.02214076e23"
unfolding shortest search reads_as round to_bits of_bits digits
avogadro = refl

least : float_text (from_bits binary64 1) ≡ codes "5e-324"
unfolding shortest search reads_as round to_bits of_bits digits
least = refl

most : float_text (from_bits binary64 0x7FEFFFFFFFFFFFFF) ≡ codes "1.7976931348623157e308"
unfolding shortest search reads_as round to_bits of_bits digits
most = refl

below : float_text (from_bits binary64 0xC004000000000000) ≡ codes "-2.5e0"
unfolding shortest search reads_as round to_bits of_bits digits
below = refl

zero_text : float_text (from_bits binary64 0) ≡ codes "0e0"
unfolding of_bits
zero_text = refl

minus_zero : float_text (from_bits binary64 0x8000000000000000) ≡ codes "-0e0"
unfolding of_bits
minus_zero = refl

no_number : float_text (from_bits binary64 0x7FF8000000000001) ≡ codes "nan"
unfolding of_bits
no_number = refl

infinite : float_text (from_bits binary64 0x7FF0000000000000) ≡ codes "+inf"
unfolding of_bits
infinite = refl

infinite_below : float_text (from_bits binary64 0xFFF0000000000000) ≡ codes "-inf"
unfolding of_bits
infinite_below = refl

-- ---- reading

read-one : float_of_text (codes "1e0") ≡ Ok (from_bits binary64 0x3FF0000000000000)
unfolding float_of_text parts_of cut_at round of_bits
read-one = refl

read-marks : float_of_text (codes "1_000.2_5E+3") ≡ Ok (from_bits binary64 4696839294168334336)
unfolding float_of_text parts_of cut_at round of_bits
read-marks = refl

read-tenth : float_of_text (codes "1e-1") ≡ Ok (from_bits binary64 0x3FB999999999999A)
unfolding float_of_text parts_of cut_at round of_bits
read-tenth = refl

read-point : float_of_text (codes "-0.e5") ≡ Ok (from_bits binary64 0x8000000000000000)
unfolding float_of_text parts_of cut_at round of_bits
read-point = refl

read-long : float_of_text (codes "9007199254740993000000000000000001e-18") ≡ Ok (from_bits binary64 4845873199050653697)
unfolding float_of_text parts_of cut_at round of_bits
read-long = refl

read-most : float_of_text (codes "1.7976931348623157e308") ≡ Ok (from_bits binary64 0x7FEFFFFFFFFFFFFF)
unfolding float_of_text parts_of cut_at round of_bits
read-most = refl

read-past : float_of_text (codes "-1e400") ≡ Err Range
unfolding float_of_text parts_of cut_at round of_bits
read-past = refl

read-nan : float_of_text (codes "nan") ≡ Ok nan
unfolding float_of_text
read-nan = refl

read-inf : float_of_text (codes "+inf") ≡ Ok (inf false)
unfolding float_of_text
read-inf = refl

read-below : float_of_text (codes "-inf") ≡ Ok (inf true)
unfolding float_of_text
read-below = refl

read-zeros : float_of_text (codes "00e0") ≡ Err BadToken
unfolding float_of_text parts_of cut_at round of_bits
read-zeros = refl

read-underscore : float_of_text (codes "1_.5e0") ≡ Err BadToken
unfolding float_of_text parts_of cut_at round of_bits
read-underscore = refl

read-power : float_of_text (codes "1e1_0") ≡ Err BadToken
unfolding float_of_text parts_of cut_at round of_bits
read-power = refl

read-decimal : float_of_text (codes "1d0") ≡ Err BadToken
unfolding float_of_text parts_of cut_at round of_bits
read-decimal = refl

read-plus : float_of_text (codes "+1e0") ≡ Err BadToken
unfolding float_of_text parts_of cut_at round of_bits
read-plus = refl
