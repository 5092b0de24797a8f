-- What reads as a double by where it lies in the gap around it.
use Rattle.std.proofs.Common.{◌≡◌, ℕ, ◌+◌, ◌-◌, ◌*◌, ◌^◌, ◌<◌, ◌≤◌, false, sym, ap, ◌∙◌, inl, inr, arith, pow-add, mul-le-mul_left, mul-le-mul_right, pow_pos}
use native.Mathlib.Nat.{le_of_lt, mul-pos}
use Rattle.std.proofs.lemmas.Bool.{cases_lt}
use lib.Ieee.{binary64, round}
use Rattle.fast_float.specs.Powers.{power_scale, IsRow}
use Rattle.fast_float.specs.Rounding.{scaled_bits}
use Rattle.fast_float.proofs.Extremes.{round_tens}
use Rattle.fast_float.proofs.ExactLemmas.{ten_to_pos}
use Rattle.fast_float.proofs.RoundingLemmas.{nearest_of_near}
use Rattle.ion_value.specs.Shortest.{IsAboveZero, NoneAbove, reads}
use Rattle.ion_float.proofs.Fewest.{as_bits, not_below, not_above}
use Rattle.ion_float.proofs.Reading.{is-positive}

-- ---- multiples of a power and of half a gap, by bounds on the power

module _ (c v a b s t h k : ℕ) (G : 0 < a * s) (same : h * s ≡ k * 2 ^ 192) where
  by_upper : c * (t + 1) < v * h → b * 2 ^ 1266 ≤ (t + 1) * (a * s) → c * b * 2 ^ 1074 < v * (a * k)
  by_upper q below =
      let more : c * (t + 1) + 1 ≤ v * h = omega arith in
      omega (arith, mul-le-mul_right (a * s) more, mul-le-mul_left c below, ap (λ z. v * a * z) same)

  by_lower : v * h < c * t → t * (a * s) ≤ b * 2 ^ 1266 → v * (a * k) < c * b * 2 ^ 1074
  by_lower q from =
      let more : v * h + 1 ≤ c * t = omega arith in
      omega (arith, mul-le-mul_right (a * s) more, mul-le-mul_left c from, ap (λ z. v * a * z) same)

module _ (row t k h c v : ℕ) (is : IsRow row t) (sum : h + power_scale row ≡ k + 192) where
  scale_pos : 0 < 10 ^ (342 - row) * 2 ^ power_scale row
  scale_pos = mul-pos (ten_to_pos (342 - row)) (pow_pos (power_scale row))

  joined : 2 ^ h * 2 ^ power_scale row ≡ 2 ^ k * 2 ^ 192
  joined = sym (pow-add 2 h (power_scale row)) ∙ ap (λ z. 2 ^ z) sum ∙ pow-add 2 k 192

  lies_below : c * (t + 1) < v * 2 ^ h → c * 10 ^ (row - 342) * 2 ^ 1074 < v * (10 ^ (342 - row) * 2 ^ k)
  lies_below q = by_upper c v (10 ^ (342 - row)) (10 ^ (row - 342)) (2 ^ power_scale row) t (2 ^ h) (2 ^ k) scale_pos joined q (le_of_lt is.below)

  lies_above : v * 2 ^ h < c * t → v * (10 ^ (342 - row) * 2 ^ k) < c * 10 ^ (row - 342) * 2 ^ 1074
  lies_above q = by_lower c v (10 ^ (342 - row)) (10 ^ (row - 342)) (2 ^ power_scale row) t (2 ^ h) (2 ^ k) scale_pos joined q is.from

-- a decimal of the next row is one of this row
tenfold : (c row bits : ℕ) → reads c (row + 1) bits → reads (c * 10) row bits
tenfold c row bits read =
    let sum : row + 1 - 342 + (342 - row) ≡ 1 + (row - 342) + (342 - (row + 1)) = omega arith in
    ap (λ n. round binary64 false n (10 ^ (342 - row))) (regroup c (10 ^ (row - 342)) ∙ ap (λ z. c * z) (sym (pow-add 10 1 (row - 342))))
    ∙ sym (round_tens binary64 c (row + 1 - 342) (342 - (row + 1)) (1 + (row - 342)) (342 - row) sum) ∙ read
  where
    regroup : (a b : ℕ) → a * 10 * b ≡ a * (10 * b)
    regroup a b = omega arith

-- a double that is no power of two, beside the multiples of a power
module _ (bits m k row t h : ℕ) (p : IsAboveZero bits) (are : scaled_bits binary64 m k ≡ bits) (fits : m < 2 ^ 53) (normal : 2 ^ 52 < m) (is : IsRow row t) (sum : h + power_scale row ≡ k + 192) where
  -- less than half a gap off it
  pub reads_within : (digits : ℕ) → (2 * m - 1) * 2 ^ h < 2 * digits * t → 2 * digits * (t + 1) < (2 * m + 1) * 2 ^ h → reads digits row bits
  reads_within digits lo hi =
      let a = 10 ^ (342 - row) in
      let b = 10 ^ (row - 342) in
      let from = lies_above row t k h (2 * digits) (2 * m - 1) is sum lo in
      let to = lies_below row t k h (2 * digits) (2 * m + 1) is sum hi in
      let one : 2 * m - 1 + 1 ≡ 2 * m = omega arith in
      let near = nearest_of_near binary64 (digits * b) a m k (ten_to_pos (342 - row)) (omega arith) (λ K. omega arith)
      (λ K. least m (a * 2 ^ k) (digits * b * 2 ^ 1074) normal (first m (a * 2 ^ k) digits b (2 ^ 1074) (2 * m - 1) one from))
      (first m (a * 2 ^ k) digits b (2 ^ 1074) (2 * m - 1) one from) (omega (arith, to)) in
      as_bits bits m k a (is-positive bits p) p.1 are (omega arith) (λ K. normal) (omega arith) (ten_to_pos (342 - row)) (digits * b) a (scaled_bits binary64 m k) near are
    where
      first : (m w d b l v : ℕ) → v + 1 ≡ 2 * m → v * w < 2 * d * b * l → 2 * (m * w) < 2 * (d * b * l) + w
      first m w d b l v e q = omega (arith, q, ap (λ z. z * w) e)

      least : (m w n : ℕ) → 2 ^ 52 < m → 2 * (m * w) < 2 * n + w → 2 ^ 52 * w ≤ n
      least m w n M q =
          let more : 2 ^ 52 + 1 ≤ m = omega arith in
          omega (arith, q, mul-le-mul_right w more)

  -- further off it on either side
  pub none_within : (front : ℕ) → 2 * (front * 10) * (t + 1) < (2 * m - 1) * 2 ^ h → (2 * m + 1) * 2 ^ h < 2 * (front * 10 + 10) * t → NoneAbove row bits
  none_within front lo hi more read =
      let a = 10 ^ (342 - row) in
      let b = 10 ^ (row - 342) in
      let here = tenfold more row bits read in
      let one : 2 * m - 1 + 1 ≡ 2 * m = omega arith in
      elim (cases_lt front more) [
        | inl l ↦
            not_above bits m k a (is-positive bits p) p.1 are (omega arith) (λ K. normal) (omega arith) (ten_to_pos (342 - row)) (more * 10 * b) (omega arith) here
            (more_than m (a * 2 ^ k) more front b (2 ^ 1074) l (lies_above row t k h (2 * (front * 10 + 10)) (2 * m + 1) is sum hi))
        | inr g ↦
            not_below bits m k a (is-positive bits p) p.1 are (omega arith) (λ K. normal) (omega arith) (ten_to_pos (342 - row)) (more * 10 * b) here
            (before m (a * 2 ^ k) more front b (2 ^ 1074) (2 * m - 1) one g (lies_below row t k h (2 * (front * 10)) (2 * m - 1) is sum lo))
      ]
    where
      more_than : (m w c f b l : ℕ) → f < c → (2 * m + 1) * w < 2 * (f * 10 + 10) * b * l → 2 * (m * w) + w < 2 * (c * 10 * b * l)
      more_than m w c f b l q r =
          let next : f + 1 ≤ c = omega arith in
          omega (arith, r, mul-le-mul_right (b * l) next)

      before : (m w c f b l v : ℕ) → v + 1 ≡ 2 * m → c ≤ f → 2 * (f * 10) * b * l < v * w → 2 * (c * 10 * b * l) + w < 2 * (m * w)
      before m w c f b l v e q r = omega (arith, r, mul-le-mul_right (b * l) q, ap (λ z. z * w) e)
