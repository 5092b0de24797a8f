-- Bounds on a power of ten that show the nearest of its multiples.
use Rattle.std.proofs.Common.{◌≡◌, ℕ, ◌+◌, ◌-◌, ◌*◌, ◌^◌, ◌<◌, ◌≤◌, false, sym, ap, ◌∙◌, arith, pow-add, mul-le-mul_left, mul-le-mul_right, pow_pos}
use native.Mathlib.Nat.{le_of_lt, lt_of_mul-lt-mul_right, mul-pos}
use lib.Ieee.{Float}
use lib.Ieee.Exact.{HasValue}
use lib.Ieee.Nearest.{closest}
use lib.Ieee.Positive.{num, den, den_pos, value→cross}
use Rattle.core.proofs.dec2flt.Closest.{closest_near}
use Rattle.fast_float.specs.Powers.{power_scale, IsRow}
use Rattle.fast_float.proofs.ExactLemmas.{ten_to_pos}
use Rattle.ion_value.specs.Shortest.{near}

-- with the unit u from t * g up to (t + 1) * g, all over l: twice n lies between c and d units
module _ (n u l g t w c d : ℕ) (L : 0 < l) (G : 0 < g) (twice : w * g ≡ 2 * n * l) (from : t * g ≤ u * l) (below : u * l ≤ (t + 1) * g) where
  above_c : c * (t + 1) < w → c * u < 2 * n
  above_c h =
      let more : c * (t + 1) + 1 ≤ w = omega arith in
      lt_of_mul-lt-mul_right l (omega (arith, mul-le-mul_left c below, mul-le-mul_right g more, twice))

  below_d : w < d * t → 2 * n < d * u
  below_d h =
      let more : w + 1 ≤ d * t = omega arith in
      lt_of_mul-lt-mul_right l (omega (arith, mul-le-mul_left d from, mul-le-mul_right g more, twice))

between : (n u q : ℕ) → (2 * q - 1) * u < 2 * n → 2 * n < (2 * q + 1) * u → 0 < u → closest n u ≡ q
between n u q lo hi U =
    let one : 2 * q ≤ 2 * q - 1 + 1 = omega arith in
    closest_near n u q (omega (arith, lo, mul-le-mul_right u one)) (omega (arith, hi))

-- the double and the row in the same units
units : (num den m k r s a : ℕ) → num * 2 ^ 1074 ≡ m * 2 ^ k * den → r + s ≡ k + 193 → m * 2 ^ r * (den * (a * 2 ^ s)) ≡ 2 * (num * a) * 2 ^ 1266
units num den m k r s a v e =
    let p : 2 ^ r * 2 ^ s ≡ 2 ^ k * 2 ^ 193 = sym (pow-add 2 r s) ∙ ap (λ z. 2 ^ z) e ∙ pow-add 2 k 193 in
    omega (arith, ap (λ z. m * den * a * z) p, ap (λ z. z * (a * 2 ^ 193)) v)

pub nearest_by_bounds : (x : Float) (m k r row t digits : ℕ) → HasValue x false (m * 2 ^ k) (2 ^ 1074) → IsRow row t → r + power_scale row ≡ k + 193
    → (2 * digits - 1) * (t + 1) < m * 2 ^ r → m * 2 ^ r < (2 * digits + 1) * t → near x row ≡ digits
nearest_by_bounds x m k r row t digits v is e lo hi =
    let n = num x * 10 ^ (342 - row) in
    let u = den x * 10 ^ (row - 342) in
    let a = 10 ^ (342 - row) * 2 ^ power_scale row in
    let D = den_pos x in
    let g : 0 < den x * a = mul-pos D (mul-pos (ten_to_pos (342 - row)) (pow_pos (power_scale row))) in
    let twice = units (num x) (den x) m k r (power_scale row) (10 ^ (342 - row)) (value→cross x (m * 2 ^ k) (2 ^ 1074) v) e in
    let from : t * (den x * a) ≤ u * 2 ^ 1266 = scaled (den x) t a (10 ^ (row - 342) * 2 ^ 1266) (10 ^ (row - 342)) (2 ^ 1266) is.from in
    let below : u * 2 ^ 1266 ≤ (t + 1) * (den x * a) = scaled_up (den x) (t + 1) a (10 ^ (row - 342)) (2 ^ 1266) (le_of_lt is.below) in
    between n u digits (above_c n u (2 ^ 1266) (den x * a) t (m * 2 ^ r) (2 * digits - 1) 0 (pow_pos 1266) g twice from below lo)
    (below_d n u (2 ^ 1266) (den x * a) t (m * 2 ^ r) 0 (2 * digits + 1) (pow_pos 1266) g twice from below hi) (mul-pos D (ten_to_pos (row - 342)))
  where
    scaled : (d t a b p l : ℕ) → t * a ≤ p * l → t * (d * a) ≤ d * p * l
    scaled d t a b p l h = omega (arith, mul-le-mul_left d h)

    scaled_up : (d t a p l : ℕ) → p * l ≤ t * a → d * p * l ≤ t * (d * a)
    scaled_up d t a p l h = omega (arith, mul-le-mul_left d h)
