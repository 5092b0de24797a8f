-- The number of binary digits falls by one where a number is halved.
use Rattle.std.proofs.Common.{ℕ, zero, suc, ◌+◌, ◌/◌, ◌<◌, ◌≤◌, arith}
use Rattle.ion_symbols.specs.Output.{digits_within, binary_digits}

-- a number that is not greater has no more digits, whatever bounds the count
pub fewer_digits : (m k a b : ℕ) → a ≤ b → a ≤ m → b ≤ k → digits_within m a ≤ digits_within k b
fewer_digits zero k a b h i j = omega arith
fewer_digits (suc m) zero zero b h i j = omega arith
fewer_digits (suc m) zero (suc a) b h i j = absurd (omega (arith, h, j))
fewer_digits (suc m) (suc k) zero b h i j = omega arith
fewer_digits (suc m) (suc k) (suc a) zero h i j = absurd (omega (arith, h))
fewer_digits (suc m) (suc k) (suc a) (suc b) h i j =
    let r : digits_within m (suc a / 2) ≤ digits_within k (suc b / 2) = fewer_digits m k (suc a / 2) (suc b / 2) (omega (arith, h)) (omega (arith, i)) (omega (arith, j)) in
    omega (arith, r)

-- half of a number, or less, has a digit less
pub half_digits : (n m : ℕ) → 0 < n → m ≤ n / 2 → 1 + binary_digits m ≤ binary_digits n
half_digits zero m h l = absurd (omega (arith, h))
half_digits (suc n) m h l =
    let r : digits_within m m ≤ digits_within n (suc n / 2) = fewer_digits m n m (suc n / 2) l (omega arith) (omega arith) in
    omega (arith, r)

-- there are no more digits than their bound
pub digits_most : (m n : ℕ) → digits_within m n ≤ m
digits_most zero n = omega arith
digits_most (suc m) zero = omega arith
digits_most (suc m) (suc n) = let r : digits_within m (suc n / 2) ≤ m = digits_most m (suc n / 2) in omega (arith, r)

-- nor than the number is high
pub few_digits : (n : ℕ) → binary_digits n ≤ n
few_digits n = digits_most n n
