-- Worked rows of floats, by computing: what is written of them under the profile that reads them, and that the other refuses them.
use Rattle.std.specs.Prelude.{◌≡◌, refl, codes, []}
use lib.Ieee.{round, to_bits, of_bits, fits}
use Rattle.ion_meter.specs.declared.fault.Reason.TheVariants as reason
use Rattle.ion_meter.specs.Rules.{floats}
use Rattle.ion_value.specs.FloatText.{float_of_text}
use Rattle.ion_value.specs.Outcome.{Accepted, Rejected}
use Rattle.ion_value.specs.Shortest.{reads_as, search, shortest}
use Rattle.ion_transcode.specs.declared.to.To.TheVariants as to
use Rattle.ion_transcode.proofs.TopRows.{marked, told, told_with, usual}

-- ---- where they are read

a_float_shown : told_with floats [] usual to.Text (codes "1_5.0E-1") ≡ (codes "1.5e0\n", Accepted 1)
unfolding told_with float_of_text shortest search reads_as round to_bits of_bits fits
a_float_shown = refl

a_float_converted : told_with floats [] usual to.Binary (codes "1.5e0") ≡ (marked "44 3F C0 00 00", Accepted 1)
unfolding told_with float_of_text shortest search reads_as round to_bits of_bits fits
a_float_converted = refl

a_tenth_converted : told_with floats [] usual to.Binary (codes "0.1e0") ≡ (marked "48 3F B9 99 99 99 99 99 9A", Accepted 1)
unfolding told_with float_of_text shortest search reads_as round to_bits of_bits fits
a_tenth_converted = refl

it_is_shown : told_with floats [] usual to.Text (marked "48 3F B9 99 99 99 99 99 9A") ≡ (codes "1e-1\n", Accepted 1)
unfolding told_with float_of_text shortest search reads_as round to_bits of_bits fits
it_is_shown = refl

zeros_converted : told_with floats [] usual to.Binary (codes "0e0 -0e0") ≡ (marked "40 44 80 00 00 00", Accepted 2)
unfolding told_with float_of_text shortest search reads_as round to_bits of_bits fits
zeros_converted = refl

words_converted : told_with floats [] usual to.Binary (codes "nan +inf -inf") ≡ (marked "44 7F C0 00 00 44 7F 80 00 00 44 FF 80 00 00", Accepted 3)
unfolding told_with float_of_text shortest search reads_as round to_bits of_bits fits
words_converted = refl

they_are_shown : told_with floats [] usual to.Text (marked "44 7F C0 00 00 44 7F 80 00 00 44 FF 80 00 00") ≡ (codes "nan\n+inf\n-inf\n", Accepted 3)
unfolding told_with float_of_text shortest search reads_as round to_bits of_bits fits
they_are_shown = refl

past_the_greatest : told_with floats [] usual to.Text (codes "1 1e400") ≡ (codes "1\n", Rejected reason.Range 2)
unfolding told_with float_of_text shortest search reads_as round to_bits of_bits fits
past_the_greatest = refl

-- ---- where they are not

in_text_refused : told [] usual to.Text (codes "1 1.5e0") ≡ (codes "1\n", Rejected reason.Float 2)
unfolding told float_of_text shortest search reads_as round to_bits of_bits fits
in_text_refused = refl

in_octets_refused : told [] usual to.Text (marked "21 01 44 3F C0 00 00") ≡ (codes "1\n", Rejected reason.Float 6)
unfolding told float_of_text shortest search reads_as round to_bits of_bits fits
in_octets_refused = refl

null_of_the_type_shown : told [] usual to.Text (marked "4F") ≡ (codes "null.float\n", Accepted 1)
unfolding told float_of_text shortest search reads_as round to_bits of_bits fits
null_of_the_type_shown = refl
