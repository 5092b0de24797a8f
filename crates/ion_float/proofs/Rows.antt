-- The definition on some floats.
use Rattle.std.proofs.Common.{◌≡◌, refl}
use lib.Ieee.{round, to_bits, of_bits}
use Rattle.ion_value.specs.Shortest.{reads_as, search, shortest}

row-0 : shortest 4591870180066957722 ≡ (1, 341)
unfolding shortest search reads_as round to_bits of_bits
row-0 = refl

row-1 : shortest 4607182418800017408 ≡ (1, 342)
unfolding shortest search reads_as round to_bits of_bits
row-1 = refl

row-2 : shortest 4599075939470750516 ≡ (30000000000000004, 325)
unfolding shortest search reads_as round to_bits of_bits
row-2 = refl

row-3 : shortest 4728057454355546112 ≡ (123456789125, 339)
unfolding shortest search reads_as round to_bits of_bits
row-3 = refl

row-4 : shortest 4950912855330343670 ≡ (1, 365)
unfolding shortest search reads_as round to_bits of_bits
row-4 = refl

row-least : shortest 1 ≡ (5, 18)
unfolding shortest search reads_as round to_bits of_bits
row-least = refl

row-most : shortest 9218868437227405311 ≡ (17976931348623157, 634)
unfolding shortest search reads_as round to_bits of_bits
row-most = refl

row-edge : shortest 4409024035195715584 ≡ (5684341886080802, 313)
unfolding shortest search reads_as round to_bits of_bits
row-edge = refl
