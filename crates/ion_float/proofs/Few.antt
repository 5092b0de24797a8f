-- A multiple of a small power of ten that is nearest to a double reads as it.
use Rattle.std.proofs.Common.{◌≡◌, ℕ, ◌+◌, ◌-◌, ◌*◌, ◌^◌, ◌<◌, ◌≤◌, false, sym, ap, ◌∙◌, arith, inl, inr, mul-le-mul_right, le_of_mul-le-mul_right, pow_pos, lit≤, lit<}
use native.Mathlib.Nat.{eq-zero-or-pos, mul-pos, pow-le-pow_right, mul-le-mul, le_trans}
use lib.Ieee.{Float, binary64, prec, low, hid, ones, of_bits}
use lib.Ieee.Exact.{HasValue}
use lib.Ieee.Positive.{num, den, den_pos, value→cross}
use Rattle.fast_float.specs.Rounding.{scaled_bits, IsNearestBits}
use Rattle.fast_float.proofs.ExactLemmas.{ten_to_pos}
use Rattle.fast_float.proofs.RoundingLemmas.{nearest_of_near}
use Rattle.ion_value.specs.Shortest.{reads, near}
use Rattle.ion_float.proofs.Nearness.{closest-half}
use Rattle.ion_float.proofs.Between.{tens}
use Rattle.ion_float.proofs.Reading.{made}

-- c * b / a is near n / d, which is m * p / l
module _ (c n d m p a b l : ℕ) (D : 0 < d) (value : n * l ≡ m * p * d) where
  pub under : 2 * (c * (d * b)) ≤ 2 * (n * a) + d * b → 2 * (c * b * l) ≤ 2 * (m * (a * p)) + b * l
  under h = le_of_mul-le-mul_right {k = d} (omega (arith, mul-le-mul_right l h, ap (λ z. z * a) value)) D

  pub over : 2 * (n * a) ≤ 2 * (c * (d * b)) + d * b → 2 * (m * (a * p)) ≤ 2 * (c * b * l) + b * l
  over h = le_of_mul-le-mul_right {k = d} (omega (arith, mul-le-mul_right l h, ap (λ z. z * a) value)) D

-- with c above 2 ^ 53, its unit is below the gap between doubles
gap : (c m w u : ℕ) → 0 < u → m ≤ 2 ^ 53 → 2 ^ 53 < c → 2 * (c * u) ≤ 2 * (m * w) + u → u < w
gap c m w u U M C h =
    let more : 2 ^ 53 + 1 ≤ c = omega arith in
    let many = mul-le-mul_right u more in
    let most = mul-le-mul_right w M in
    omega (arith, many, most)

pub many_reads : (x : Float) (row m k : ℕ) → HasValue x false (m * 2 ^ k) (2 ^ low binary64) → m ≤ 2 ^ prec binary64 → (0 < k → hid binary64 < m)
    → 2 ^ 53 < near x row → IsNearestBits binary64 (near x row * 10 ^ (row - 342)) (10 ^ (342 - row)) (scaled_bits binary64 m k)
many_reads x row m k v M N C =
    let c = near x row in
    let a = 10 ^ (342 - row) in
    let b = 10 ^ (row - 342) in
    let l = 2 ^ low binary64 in
    let D = den_pos x in
    let half = closest-half (num x * a) (den x * b) (mul-pos D (ten_to_pos (row - 342))) in
    let value = value→cross x (m * 2 ^ k) l v in
    let lo = under c (num x) (den x) m (2 ^ k) a b l D value half.0 in
    let hi = over c (num x) (den x) m (2 ^ k) a b l D value half.1 in
    let less : b * l < a * 2 ^ k = gap c m (a * 2 ^ k) (b * l) (mul-pos (ten_to_pos (row - 342)) (pow_pos (low binary64))) M C (regrouped c b l _ lo) in
    nearest_of_near binary64 (c * b) a m k (ten_to_pos (342 - row)) M (λ K. more K)
    (λ K. lower (hid binary64) m (a * 2 ^ k) (c * b * l) (b * l) (N K) hi less)
    (first (m * (a * 2 ^ k)) (c * b * l) (a * 2 ^ k) (b * l) hi less)
    (first (c * b * l) (m * (a * 2 ^ k)) (a * 2 ^ k) (b * l) lo less)
  where
    more : 0 < k → hid binary64 ≤ m
    more K = omega (arith, N K)

    regrouped : (c b l r : ℕ) → 2 * (c * b * l) ≤ r → 2 * (c * (b * l)) ≤ r
    regrouped c b l r h = omega (arith, h)

    first : (a c w l : ℕ) → 2 * a ≤ 2 * c + l → l < w → 2 * a < 2 * c + w
    first a c w l h s = omega (arith, h, s)

    lower : (h m w c l : ℕ) → h < m → 2 * (m * w) ≤ 2 * c + l → l < w → h * w ≤ c
    lower h m w c l hm b s = let next : h + 1 ≤ m = omega arith in omega (arith, mul-le-mul_right w next, b, s)

-- the nearest multiple reads as the double where it is above 2 ^ 53
pub reads-many : (bits row : ℕ) → bits < ones binary64 * hid binary64 → 2 ^ 53 < near (of_bits binary64 bits) row → reads (near (of_bits binary64 bits) row) row bits
reads-many bits row h C =
    let it = made bits h in
    let r = it.2 in
    let n = many_reads (of_bits binary64 bits) row it.0 it.1 r.value r.most r.normal C in
    sym n.0 ∙ ap (of_bits binary64) r.bits_are

-- ---- from one power to the next

tenfold : (c e n d a b a' b' : ℕ) → 0 < d → 0 < b → 0 < b' → b' * a ≡ 10 * (b * a') → 2 * (c * (d * b)) ≤ 2 * (n * a) + d * b → 2 * (n * a') ≤ 2 * (e * (d * b')) + d * b' → c ≤ 10 * e + 5
tenfold c e n d a b a' b' D B B' t lo hi =
    let all : 2 * c ≤ 20 * e + 11 =
    le_of_mul-le-mul_right {k = d * b * b'} (omega (arith, mul-le-mul_right b' lo, mul-le-mul_right (10 * b) hi, ap (λ z. 2 * n * z) t)) (mul-pos (mul-pos D B) B') in
    omega arith

pub next_near : (x : Float) (row : ℕ) → near x row ≤ 10 * near x (row + 1) + 5
next_near x row =
    let lo = closest-half (num x * 10 ^ (342 - row)) (den x * 10 ^ (row - 342)) (mul-pos (den_pos x) (ten_to_pos (row - 342))) in
    let hi = closest-half (num x * 10 ^ (342 - (row + 1))) (den x * 10 ^ (row + 1 - 342)) (mul-pos (den_pos x) (ten_to_pos (row + 1 - 342))) in
    tenfold (near x row) (near x (row + 1)) (num x) (den x) (10 ^ (342 - row)) (10 ^ (row - 342)) (10 ^ (342 - (row + 1))) (10 ^ (row + 1 - 342))
    (den_pos x) (ten_to_pos (row - 342)) (ten_to_pos (row + 1 - 342)) (tens row) lo.0 hi.1

-- ---- at the greatest power

highest : (m k bits : ℕ) → scaled_bits binary64 m k ≡ bits → bits < ones binary64 * hid binary64 → (0 < k → hid binary64 < m) → k ≤ 2045
highest m k bits e h n =
    elim (eq-zero-or-pos k) [
      | inl z ↦ omega arith
      | inr p ↦ omega (arith, n p)
    ]

small : (c n d m p : ℕ) → 0 < d → n * 2 ^ 1074 ≡ m * p * d → m ≤ 2 ^ 53 → p ≤ 2 ^ 2045 → 2 * (c * (d * 10 ^ 309)) ≤ 2 * (n * 1) + d * 10 ^ 309 → c ≤ 1
small c n d m p D v M P h =
    let most : n ≤ 2 ^ 1024 * d = le_of_mul-le-mul_right {k = 2 ^ 1074} (omega (arith, v, mul-le-mul_right d (mul-le-mul M P))) (lit< tt) in
    let all : 2 * c * 10 ^ 309 ≤ 2 * 2 ^ 1024 + 10 ^ 309 = le_of_mul-le-mul_right {k = d} (omega (arith, most, h)) D in
    omega arith

pub first_near : (bits : ℕ) → bits < ones binary64 * hid binary64 → near (of_bits binary64 bits) 651 ≤ 2 ^ 53
first_near bits h =
    let it = made bits h in
    let r = it.2 in
    let x = of_bits binary64 bits in
    let half = closest-half (num x * 1) (den x * 10 ^ 309) (mul-pos (den_pos x) (ten_to_pos 309)) in
    let one = small (near x 651) (num x) (den x) it.0 (2 ^ it.1) (den_pos x) (value→cross x (it.0 * 2 ^ it.1) (2 ^ 1074) r.value) r.most (pow-le-pow_right (lit< tt) (highest it.0 it.1 bits r.bits_are h r.normal)) half.0 in
    le_trans one (lit≤ tt)
