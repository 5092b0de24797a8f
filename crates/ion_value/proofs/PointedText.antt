-- Numbers with a point before their last digits.
use Rattle.std.proofs.Common.{◌≡◌, ℕ, ◌+◌, ◌-◌, ◌*◌, ◌/◌, ◌%◌, ◌^◌, ◌<◌, ◌≤◌, List, [], ◌∷◌, ◌++◌, length, sym, ap, ◌∙◌, arith, append_assoc, lit<}
use Rattle.std.specs.Fmt.{decimal}
use Rattle.std.proofs.lemmas.Fmt.{length-decimal-le_wide}
use Rattle.std.proofs.lemmas.Nat.{pow-add}
use Rattle.std.proofs.Math.Nat.{pow-le-pow_right, div-lt_iff_lt-mul, mod-lt}
use Rattle.ion_value.specs.Digits.{fixed_digits}
use Rattle.ion_value.specs.Decimal.{pointed_text}
use Rattle.ion_value.proofs.FixedDigits.{fixed_digits-add, pow-pos}

pub rest-small : (n k p : ℕ) → p ≡ 10 ^ k → n % p < 10 ^ k
rest-small n k p e = rw e (mod-lt n (pow-pos k))

-- the last digits are those of what a division leaves
pub fixed_digits-rest : (k n : ℕ) → fixed_digits k (n % 10 ^ k) ≡ fixed_digits k n
unfolding fixed_digits
fixed_digits-rest k n =
    let none : 0 + k ≡ k = omega arith in
    sym (rw none at (fixed_digits-add 0 k n))

-- a number written in three parts
pub pointed-written : (n k p : ℕ) (xs whole point text ds : List ℕ) → p ≡ 10 ^ k → ds ≡ decimal (n / p) → whole ≡ xs ++ ds → point ≡ whole ++ 46 ∷ []
    → text ≡ point ++ fixed_digits k (n % p) → text ≡ xs ++ pointed_text n k
pointed-written n k p xs whole point text ds e f a b c =
    c ∙ rw (b, a, f, e, fixed_digits-rest k n) (
    append_assoc (xs ++ decimal (n / 10 ^ k)) (46 ∷ []) (fixed_digits k n)
    ∙ append_assoc xs (decimal (n / 10 ^ k)) (46 ∷ fixed_digits k n)
    )

-- what stands before the point is the shorter the more stands after it
pub whole-short : (n k p : ℕ) (ds : List ℕ) → p ≡ 10 ^ k → ds ≡ decimal (n / p) → n < 2 ^ 128 → k ≤ 38 → length ds ≤ 39 - k
whole-short n k p ds e f small few =
    let whole : 39 - k + k ≡ 39 = omega arith in
    let power : 10 ^ 39 ≡ 10 ^ (39 - k) * 10 ^ k = ap (λ j. 10 ^ j) (sym whole) ∙ pow-add 10 (39 - k) k in
    let wide : 2 ^ 128 < 10 ^ 39 = lit< tt in
    let fits : n < 10 ^ (39 - k) * 10 ^ k = rw (← power) (omega arith) in
    let less : n / 10 ^ k < 10 ^ (39 - k) = (div-lt_iff_lt-mul (pow-pos k)).1 fits in
    let top : 10 ^ (39 - k) ≤ 10 ^ 64 = pow-le-pow_right (lit< tt) {j = 64} (omega arith) in
    let below : n / 10 ^ k < 10 ^ 64 = omega arith in
    rw (f, e) (length-decimal-le_wide (39 - k) (n / 10 ^ k) (omega arith) less below)

-- a power that 128 bits hold
pub power-fits : (k : ℕ) → k ≤ 38 → 10 ^ k < 2 ^ 128
power-fits k few =
    let most : 10 ^ k ≤ 10 ^ 38 = pow-le-pow_right (lit< tt) few in
    let wide : 10 ^ 38 < 2 ^ 128 = lit< tt in
    omega arith
