-- At the least power the nearest multiple reads as the float.
use Rattle.std.proofs.Common.{◌≡◌, ℕ, ◌+◌, ◌*◌, ◌^◌, ◌<◌, ◌≤◌, false, ap, ◌∙◌, arith, mul-le-mul_left, mul-le-mul_right, le_of_mul-le-mul_right, pow_pos, lit≤}
use lib.Ieee.{Float, binary64, prec, low, hid}
use lib.Ieee.Exact.{HasValue}
use lib.Ieee.Positive.{num, den, den_pos, value→cross}
use Rattle.fast_float.specs.Rounding.{scaled_bits, IsNearestBits}
use Rattle.fast_float.proofs.ExactLemmas.{ten_to_pos}
use Rattle.fast_float.proofs.RoundingLemmas.{nearest_of_near}
use Rattle.ion_value.specs.Shortest.{near}
use Rattle.ion_float.proofs.Nearness.{closest-half}

-- c / t is near num / den, which is m * p / l
module _ (c n d m p t l : ℕ) (D : 0 < d) (value : n * l ≡ m * p * d) where
  under : 2 * (c * d) ≤ 2 * (n * t) + d → 2 * (c * l) ≤ 2 * (m * (t * p)) + l
  under h = le_of_mul-le-mul_right {k = d} (omega (arith, mul-le-mul_right l h, ap (λ z. z * t) value)) D

  over : 2 * (n * t) ≤ 2 * (c * d) + d → 2 * (m * (t * p)) ≤ 2 * (c * l) + l
  over h = le_of_mul-le-mul_right {k = d} (omega (arith, mul-le-mul_right l h, ap (λ z. z * t) value)) D

small : 2 ^ 1074 + 1 ≤ 10 ^ 342
small = lit≤ tt

wide : (k t : ℕ) → t ≤ t * 2 ^ k
wide k t = omega (arith, mul-le-mul_left t (pow_pos k))

pub least_reads : (x : Float) (m k : ℕ) → HasValue x false (m * 2 ^ k) (2 ^ low binary64) → m ≤ 2 ^ prec binary64 → (0 < k → hid binary64 < m)
    → IsNearestBits binary64 (near x 0) (10 ^ 342) (scaled_bits binary64 m k)
least_reads x m k v M N =
    let c = near x 0 in
    let t = 10 ^ 342 in
    let half = closest-half (num x * 10 ^ 342) (den x * 1) (omega (arith, den_pos x)) in
    let one : den x ≡ den x * 1 = omega arith in
    let some : 0 < den x * 1 = omega (arith, den_pos x) in
    let value = value→cross x (m * 2 ^ k) (2 ^ low binary64) v ∙ ap (λ z. m * 2 ^ k * z) one in
    let a = under c (num x) (den x * 1) m (2 ^ k) t (2 ^ low binary64) some value half.0 in
    let b = over c (num x) (den x * 1) m (2 ^ k) t (2 ^ low binary64) some value half.1 in
    let w = wide k t in
    nearest_of_near binary64 c t m k (ten_to_pos 342) M (λ K. more K)
    (λ K. lower (hid binary64) m (t * 2 ^ k) (c * 2 ^ low binary64) (2 ^ low binary64) (N K) b (less _ _ _ small w))
    (first (m * (t * 2 ^ k)) (c * 2 ^ low binary64) (t * 2 ^ k) (2 ^ low binary64) b (less _ _ _ small w))
    (first (c * 2 ^ low binary64) (m * (t * 2 ^ k)) (t * 2 ^ k) (2 ^ low binary64) a (less _ _ _ small w))
  where
    more : 0 < k → hid binary64 ≤ m
    more K = omega (arith, N K)

    less : (l t w : ℕ) → l + 1 ≤ t → t ≤ w → l < w
    less l t w a b = omega (arith, a, b)

    first : (a c w l : ℕ) → 2 * a ≤ 2 * c + l → l < w → 2 * a < 2 * c + w
    first a c w l h s = omega (arith, h, s)

    lower : (h m w c l : ℕ) → h < m → 2 * (m * w) ≤ 2 * c + l → l < w → h * w ≤ c
    lower h m w c l hm b s = let next : h + 1 ≤ m = omega arith in omega (arith, mul-le-mul_right w next, b, s)
