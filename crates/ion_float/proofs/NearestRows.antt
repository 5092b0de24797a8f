-- Decimals beside the shortest ones of some doubles: whether they read, and how far they are.
use Rattle.std.proofs.Common.{◌≡◌, nat_lt, true, false, refl}
use lib.Ieee.{round, to_bits, of_bits}
use Rattle.ion_value.specs.Shortest.{reads_as}
use Rattle.ion_float.specs.Laws.{distance}

-- 4e-324 reads as the least double, and 5e-324 is nearer
row-4 : reads_as 1 4 18 ≡ true
unfolding reads_as round to_bits
row-4 = refl

row-5 : nat_lt (distance 5 18 1) (distance 4 18 1) ≡ true
unfolding of_bits
row-5 = refl

-- 9e-324 reads as the double after it, and 1e-323 is nearer
row-9 : reads_as 2 9 18 ≡ true
unfolding reads_as round to_bits
row-9 = refl

row-10 : nat_lt (distance 1 19 2) (distance 9 18 2) ≡ true
unfolding of_bits
row-10 = refl

-- 2 ^ -44 has a nearer decimal of 16 digits, which doesn't read
row-edge : nat_lt (distance 5684341886080801 313 4409024035195715584) (distance 5684341886080802 313 4409024035195715584) ≡ true
unfolding of_bits
row-edge = refl

row-under : reads_as 4409024035195715584 5684341886080801 313 ≡ false
unfolding reads_as round to_bits
row-under = refl

-- halfway between two that read
row-odd : reads_as 4769312005385356288 6871947673601563 337 ≡ true
unfolding reads_as round to_bits
row-odd = refl

row-tie : distance 6871947673601562 337 4769312005385356288 ≡ distance 6871947673601563 337 4769312005385356288
unfolding of_bits
row-tie = refl
