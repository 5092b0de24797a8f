-- A decimal that reads as a double, beside others of its row that do.
use Rattle.std.proofs.Common.{◌≡◌, ◌≢◌, ℕ, ◌+◌, ◌-◌, ◌*◌, ◌%◌, ◌^◌, ◌<◌, ◌≤◌, T, false, sym, ap, ◌∙◌, subst, inl, inr, arith, mul-le-mul_right, mul-pos, le_of_eq, le_of_lt, pow-add}
use Rattle.std.proofs.lemmas.Bool.{cases_lt}
use Rattle.std.specs.Prelude.{from_bits}
use Rattle.core.specs.Int.{abs_diff}
use lib.Ieee.{Float, binary64, round, le, fits}
use lib.Ieee.Fits.{round-fits}
use lib.Ieee.Nearest.{closest, closest_same}
use lib.Ieee.Order.{round_mono}
use lib.Ieee.Positive.{num, den, den_pos}
use lib.Ieee.Scale.{round_same}
use Rattle.core.proofs.dec2flt.Closest.{closest_tie}
use Rattle.fast_float.proofs.ExactLemmas.{ten_to_pos}
use Rattle.ion_value.specs.Shortest.{IsPositive, IsTaken, reads, near}
use Rattle.ion_float.specs.Laws.{distance}
use Rattle.ion_float.proofs.Between.{squeezed}
use Rattle.ion_float.proofs.Nearness.{closest-half}

-- ---- multiples of a unit beside a number

module _ (n w d : ℕ) (some : 0 < w * d) where
  -- how far a multiple is from the number
  abbrev off : ℕ → ℕ
  off c = abs_diff (c * w * d) n

  closest_nearest : (c : ℕ) → off (closest n (w * d)) ≤ off c
  closest_nearest c =
      let half = closest-half n (w * d) some in
      elim (cases_lt c (closest n (w * d))) [
        | inl l ↦ omega (arith, half.0, half.1, stepped c (closest n (w * d)) l)
        | inr g ↦ elim (cases_lt (closest n (w * d)) c) [
          | inl l ↦ omega (arith, half.0, half.1, stepped (closest n (w * d)) c l)
          | inr e ↦
              let same : closest n (w * d) ≡ c = omega arith in
              le_of_eq (ap off same)
        ]
      ]
    where
      stepped : (a b : ℕ) → a < b → a * w * d + w * d ≤ b * w * d
      stepped a b l = let next : a + 1 ≤ b = omega arith in omega (arith, mul-le-mul_right (w * d) next)

  -- from the multiple above the closest on, greater is farther
  above_less : (c : ℕ) → closest n (w * d) + 1 < c → off (closest n (w * d) + 1) < off c
  above_less c l =
      let half = closest-half n (w * d) some in
      let next : closest n (w * d) + 1 + 1 ≤ c = omega arith in
      omega (arith, half.1, mul-le-mul_right (w * d) next, some)

  above_nearest : (c : ℕ) → closest n (w * d) < c → off (closest n (w * d) + 1) ≤ off c
  above_nearest c l =
      elim (cases_lt (closest n (w * d) + 1) c) [
        | inl m ↦ le_of_lt (above_less c m)
        | inr g ↦
            let same : closest n (w * d) + 1 ≡ c = omega arith in
            le_of_eq (ap off same)
      ]

  -- between two that are equally far there is a nearer one
  pub between_nearer : (a b : ℕ) → a + 2 ≤ b → off b ≡ off a → off (a + 1) < off a
  between_nearer a b l same = omega (arith, mul-le-mul_right (w * d) l, same, some)

  -- a multiple that is as near as the closest is beside it, which is then even
  tied_even : (c : ℕ) → off c ≡ off (closest n (w * d)) → c ≢ closest n (w * d) → closest n (w * d) % 2 ≡ 0
  tied_even c same other =
      let half = closest-half n (w * d) some in
      elim (cases_lt c (closest n (w * d))) [
        | inl l ↦ at c (half_above c (closest n (w * d)) l half.0 half.1 same)
        | inr g ↦
            let l : closest n (w * d) < c = omega (arith, other) in
            at (closest n (w * d)) (half_below (closest n (w * d)) c l half.0 half.1 same)
      ]
    where
      at : (b : ℕ) → 2 * n ≡ 2 * (b * (w * d)) + w * d → closest n (w * d) % 2 ≡ 0
      at b e = let is = closest_tie n (w * d) b (omega (arith, e)) (omega (arith, e, some)) e in omega (arith, is)

      half_above : (c q : ℕ) → c < q → 2 * (q * (w * d)) ≤ 2 * n + w * d → 2 * n ≤ 2 * (q * (w * d)) + w * d → off c ≡ off q → 2 * n ≡ 2 * (c * (w * d)) + w * d
      half_above c q l lo hi e = let next : c + 1 ≤ q = omega arith in omega (arith, lo, hi, e, mul-le-mul_right (w * d) next, some)

      half_below : (q c : ℕ) → q < c → 2 * (q * (w * d)) ≤ 2 * n + w * d → 2 * n ≤ 2 * (q * (w * d)) + w * d → off c ≡ off q → 2 * n ≡ 2 * (q * (w * d)) + w * d
      half_below q c l lo hi e = let next : q + 1 ≤ c = omega arith in omega (arith, lo, hi, e, mul-le-mul_right (w * d) next, some)

-- ---- decimals over one denominator

tens : (row : ℕ) → 10 ^ (row - 342) * 10 ^ 342 ≡ 10 ^ row * 10 ^ (342 - row)
tens row =
    let sum : row - 342 + 342 ≡ row + (342 - row) = omega arith in
    sym (pow-add 10 (row - 342) 342) ∙ ap (λ k. 10 ^ k) sum ∙ pow-add 10 row (342 - row)

joined : (digits row : ℕ) → round binary64 false (digits * 10 ^ (row - 342)) (10 ^ (342 - row)) ≡ round binary64 false (digits * 10 ^ row) (10 ^ 342)
joined digits row =
    round_same binary64 false (digits * 10 ^ (row - 342)) (10 ^ (342 - row)) (digits * 10 ^ row) (10 ^ 342) (ten_to_pos (342 - row)) (ten_to_pos 342)
    (moved digits (10 ^ (row - 342)) (10 ^ 342) (10 ^ row) (10 ^ (342 - row)) (tens row))
  where
    moved : (c a b e f : ℕ) → a * b ≡ e * f → c * a * b ≡ c * e * f
    moved c a b e f h = omega (arith, ap (λ z. c * z) h)

near_is : (x : Float) (row : ℕ) → near x row ≡ closest (num x * 10 ^ 342) (10 ^ row * den x)
near_is x row =
    closest_same (num x * 10 ^ (342 - row)) (den x * 10 ^ (row - 342)) (num x * 10 ^ 342) (10 ^ row * den x)
    (mul-pos (den_pos x) (ten_to_pos (row - 342))) (mul-pos (ten_to_pos row) (den_pos x)) (moved (num x) (den x) (10 ^ (row - 342)) (10 ^ 342) (10 ^ row) (10 ^ (342 - row)) (tens row))
  where
    moved : (n d a b e f : ℕ) → a * b ≡ e * f → n * f * (e * d) ≡ n * b * (d * a)
    moved n d a b e f h = omega (arith, ap (λ z. n * d * z) h)

-- what stands between two decimals that read as a double reads as it
pub between : (bits a i b j c k : ℕ) → IsPositive bits → a * 10 ^ i ≤ b * 10 ^ j → b * 10 ^ j ≤ c * 10 ^ k → reads a i bits → reads c k bits → reads b j bits
between bits a i b j c k p l h ra rc =
    let x = from_bits binary64 bits in
    let d = 10 ^ 342 in
    let some = ten_to_pos 342 in
    joined b j
    ∙ squeezed binary64 x (b * 10 ^ j) d p
    (subst (λ y. T (le y (round binary64 false (b * 10 ^ j) d))) (sym (joined a i) ∙ ra) (round_mono binary64 (a * 10 ^ i) d (b * 10 ^ j) d some some (mul-le-mul_right d l)))
    (subst (λ y. T (le (round binary64 false (b * 10 ^ j) d) y)) (sym (joined c k) ∙ rc) (round_mono binary64 (b * 10 ^ j) d (c * 10 ^ k) d some some (mul-le-mul_right d h)))
    (subst (λ y. T (fits binary64 y)) ra (round-fits binary64 false (a * 10 ^ (i - 342)) (10 ^ (342 - i))))

-- ---- decimals of one row

module _ (bits row : ℕ) (p : IsPositive bits) where
  abbrev x : Float
  x = from_bits binary64 bits

  pub some_unit : 0 < 10 ^ row * den x
  some_unit = mul-pos (ten_to_pos row) (den_pos x)

  pub between_reads : (a b c : ℕ) → a ≤ b → b ≤ c → reads a row bits → reads c row bits → reads b row bits
  between_reads a b c l h = between bits a row b row c row p (mul-le-mul_right (10 ^ row) l) (mul-le-mul_right (10 ^ row) h)

  -- where the nearest doesn't read and the one above it does, what reads is above the nearest
  above : (c other : ℕ) → ¬ (reads c row bits) → reads (c + 1) row bits → reads other row bits → c < other
  above c other unread read also =
      elim (cases_lt c other) [
        | inl l ↦ l
        | inr g ↦ absurd (unread (between_reads other c (c + 1) g (omega arith) also read))
      ]

  module _ (digits other : ℕ) (taken : IsTaken digits row bits) (read : reads digits row bits) (also : reads other row bits) where
    abbrev c : ℕ
    c = closest (num x * 10 ^ 342) (10 ^ row * den x)

    pub taken_nearest : distance digits row bits ≤ distance other row bits
    taken_nearest =
        elim taken [
          | inl e ↦
              subst (λ d. distance d row bits ≤ distance other row bits) (sym (near_is x row) ∙ e) (closest_nearest (num x * 10 ^ 342) (10 ^ row) (den x) some_unit other)
          | inr e ↦
              let l = above (near x row) other e.1 (subst (λ d. reads d row bits) (sym e.0) read) also in
              subst (λ d. distance d row bits ≤ distance other row bits) (ap (λ d. d + 1) (sym (near_is x row)) ∙ e.0)
              (above_nearest (num x * 10 ^ 342) (10 ^ row) (den x) some_unit other (subst (λ d. d < other) (near_is x row) l))
        ]

    pub taken_even : other ≢ digits → distance other row bits ≡ distance digits row bits → digits % 2 ≡ 0
    taken_even differs same =
        elim taken [
          | inl e ↦
              let is = sym (near_is x row) ∙ e in
              subst (λ d. d % 2 ≡ 0) is
              (tied_even (num x * 10 ^ 342) (10 ^ row) (den x) some_unit other (same ∙ ap (λ d. distance d row bits) (sym is)) (subst (λ d. other ≢ d) (sym is) differs))
          | inr e ↦
              let is = ap (λ d. d + 1) (sym (near_is x row)) ∙ e.0 in
              let l = above (near x row) other e.1 (subst (λ d. reads d row bits) (sym e.0) read) also in
              let m : c + 1 < other = omega (arith, l, differs, e.0, near_is x row) in
              absurd (omega (arith, above_less (num x * 10 ^ 342) (10 ^ row) (den x) some_unit other m, same, ap (λ d. distance d row bits) is))
        ]
