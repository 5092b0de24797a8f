-- The shortest decimal that reads as a double. A decimal is digits and a row: digits * 10 ^ (row - 342). Since `-` stops at 0, the
-- power of ten is 10 ^ (row - 342) over 10 ^ (342 - row).
use Rattle.std.specs.Prelude.{◌≡◌, ℕ, zero, suc, ◌+◌, ◌-◌, ◌*◌, ◌^◌, ◌<◌, ◌⊎◌, Bool, true, false, T, from_bits}
use lib.Dec.{eqb}
use lib.Ieee.{Float, binary64, round, to_bits, of_bits}
use lib.Ieee.Nearest.{closest}
use lib.Ieee.Positive.{positive, num, den}

-- the decimal reads as the double with these bits: that is the nearest to it, or the even one of two
abbrev pub reads : ℕ → ℕ → ℕ → Type 0
reads digits row bits = round binary64 false (digits * 10 ^ (row - 342)) (10 ^ (342 - row)) ≡ from_bits binary64 bits

-- the bits of a finite double above zero
abbrev pub IsAboveZero : ℕ → Type 0
IsAboveZero bits = (0 < bits) × (bits < 2047 * 2 ^ 52)

-- the double with these bits is finite and above zero
abbrev pub IsPositive : ℕ → Type 0
IsPositive bits = T (positive (from_bits binary64 bits))

-- no decimal in the next row reads as that double
abbrev pub NoneAbove : ℕ → ℕ → Type 0
NoneAbove row bits = (more : ℕ) → ¬ (reads more (row + 1) bits)

-- ---- the definition by trial

-- the digits in a row whose decimal is the nearest to a double, the even ones of two
abbrev pub near : Float → ℕ → ℕ
near x row = closest (num x * 10 ^ (342 - row)) (den x * 10 ^ (row - 342))

-- whether a decimal reads as the double with these bits
unfoldable pub reads_as : ℕ → ℕ → ℕ → Bool
unfolding round to_bits
reads_as bits digits row = eqb (to_bits binary64 (round binary64 false (digits * 10 ^ (row - 342)) (10 ^ (342 - row)))) bits

-- The first row, from the greatest down, in which the nearest decimal reads as the double, or the one above it; `found` says whether the
-- nearest of this row does, and `above` whether the one above it. (Above a power of two the next double is further off than below it, so
-- that there the one above may read where the nearest does not.)
unfoldable pub search : Float → ℕ → ℕ → Bool → Bool → ℕ × ℕ
unfolding reads_as
search x bits row true above = (near x row, row)
search x bits row false true = (near x row + 1, row)
search x bits zero false false = (near x zero, zero)
search x bits (suc row) false false =
    let c = near x row in
    search x bits row (reads_as bits c row) (reads_as bits (c + 1) row)

-- the digits and the row of a finite double above zero
unfoldable pub shortest : ℕ → ℕ × ℕ
unfolding search of_bits
shortest bits = let x = of_bits binary64 bits in search x bits 651 false false

-- these digits are the nearest in a row, or the ones above those, which don't read
abbrev pub IsTaken : ℕ → ℕ → ℕ → Type 0
IsTaken digits row bits =
    let c = near (from_bits binary64 bits) row in
    (c ≡ digits) ⊎ ((c + 1 ≡ digits) × ¬ (reads c row bits))
