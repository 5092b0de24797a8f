-- No multiple of a greater power of ten than that of the definition reads as the double.
use Rattle.std.proofs.Common.{◌≡◌, ◌≢◌, ℕ, zero, suc, ◌+◌, ◌-◌, ◌*◌, ◌/◌, ◌%◌, ◌^◌, ◌<◌, ◌≤◌, ◌⊎◌, T, Bool, true, false, refl, sym, ap, ◌∙◌, subst, arith, inl, inr, mul-le-mul_right, pow_pos, pow-add, lit<}
use mathlib.Core.Bool.{true≢false}
use Rattle.std.specs.Prelude.{from_bits}
use Rattle.std.proofs.lemmas.Bool.{cases_lt}
use native.Mathlib.Nat.{le_of_lt, not-le_of_lt, mul-pos, pow-suc, pow-le-pow_right}
use lib.Ieee.{Float, binary64, prec, low, hid, ones, round, of_bits, le, fits}
use lib.Ieee.Fits.{round-fits}
use lib.Ieee.Order.{round_mono}
use lib.Ieee.Positive.{positive, num, den, den_pos, value→cross, value_pos, first_pos}
use Rattle.fast_float.specs.Rounding.{scaled_bits, IsNearestBits}
use Rattle.core.specs.Dec2flt.Rounding.{IsJustAbove}
use Rattle.fast_float.proofs.ExactLemmas.{ten_to_pos}
use Rattle.fast_float.proofs.Extremes.{nearest_of_huge, round_tens, tens_le}
use Rattle.fast_float.proofs.RoundingLemmas.{nearest_of_near, nearest_below, nearest_above, nearest_tie}
use Rattle.ion_value.specs.Shortest.{IsAboveZero, IsPositive, reads, near, reads_as, search, shortest}
use Rattle.ion_float.proofs.Between.{squeezed, same_float, tens, zero-reads}
use Rattle.ion_float.proofs.Few.{under, over}
use Rattle.ion_float.proofs.Nearness.{closest-half}
use Rattle.ion_float.proofs.Reading.{made, is-positive, shortest_reads}
use Rattle.ion_float.proofs.Search.{reads_as-true}

-- what lies between two fractions that read as a float reads as it
between_read : (x : Float) (a b c d e g : ℕ) → T (positive x) → 0 < b → 0 < d → 0 < g → a * g ≤ e * b → e * d ≤ c * g
    → round binary64 false a b ≡ x → round binary64 false c d ≡ x → round binary64 false e g ≡ x
between_read x a b c d e g p B D G lo hi ra rc =
    squeezed binary64 x e g p (subst (λ y. T (le y (round binary64 false e g))) ra (round_mono binary64 a b e g B G lo))
    (subst (λ y. T (le (round binary64 false e g) y)) rc (round_mono binary64 e g c d G D hi)) (subst (λ y. T (fits binary64 y)) ra (round-fits binary64 false a b))

-- a fraction that is a float reads as it
exactly : (n d m k : ℕ) → 0 < d → n * 2 ^ low binary64 ≡ m * (d * 2 ^ k) → m ≤ 2 ^ prec binary64 → (0 < k → hid binary64 ≤ m) → IsNearestBits binary64 n d (scaled_bits binary64 m k)
exactly n d m k D e M N =
    let w : 0 < d * 2 ^ k = mul-pos D (pow_pos k) in
    nearest_of_near binary64 n d m k D M N (λ K. omega (arith, e, mul-le-mul_right (d * 2 ^ k) (N K))) (omega (arith, e, w)) (omega (arith, e, w))

-- a double as m * 2 ^ k of the least one, beside fractions over a
module _ (bits m k a : ℕ) (pos : IsPositive bits) (finite : bits < ones binary64 * hid binary64) (are : scaled_bits binary64 m k ≡ bits) (most : m ≤ 2 ^ prec binary64) (normal : 0 < k → hid binary64 < m)
    (some : 0 < m) (A : 0 < a) where
  -- the bits of the float nearest to a fraction that reads as the double are the double's
  bits_of : (n d r : ℕ) → IsNearestBits binary64 n d r → round binary64 false n d ≡ from_bits binary64 bits → r ≡ bits
  bits_of n d r near_bits read = let small = near_bits.1 in same_float n d r bits pos (omega arith) (omega arith) near_bits read

  -- and those of the floats beside it are not
  not_before : scaled_bits binary64 (m - 1) k ≡ bits → ⊥
  not_before e = absurd (omega arith)

  not_after : scaled_bits binary64 (m + 1) k ≡ bits → ⊥
  not_after e = absurd (omega arith)

  pub as_bits : (n d r : ℕ) → IsNearestBits binary64 n d r → r ≡ bits → round binary64 false n d ≡ from_bits binary64 bits
  as_bits n d r near_bits e = sym near_bits.0 ∙ ap (of_bits binary64) e

  value_reads : round binary64 false (m * 2 ^ k) (2 ^ low binary64) ≡ from_bits binary64 bits
  value_reads =
      as_bits (m * 2 ^ k) (2 ^ low binary64) (scaled_bits binary64 m k)
      (exactly (m * 2 ^ k) (2 ^ low binary64) m k (pow_pos (low binary64)) (regroup m (2 ^ k) (2 ^ low binary64)) most (λ K. omega (arith, normal K))) are
    where
      regroup : (a b c : ℕ) → a * b * c ≡ a * (c * b)
      regroup a b c = omega arith

  -- the float just below
  before : (n : ℕ) → (m - 1) * (a * 2 ^ k) ≤ n * 2 ^ low binary64 → n * 2 ^ low binary64 < m * (a * 2 ^ k) → IsJustAbove binary64 n a (m - 1) k
  before n from below =
      let one : m - 1 + 1 ≡ m = omega arith in
      record {
        significand = record { fits = omega arith; normal = λ K. omega (arith, normal K) };
        from = from;
        below = subst (λ j. n * 2 ^ low binary64 < j * (a * 2 ^ k)) (sym one) below;
      }

  -- what reads as the double lies no further below it than half way to the float before
  pub not_below : (n : ℕ) → round binary64 false n a ≡ from_bits binary64 bits → 2 * (n * 2 ^ low binary64) + a * 2 ^ k < 2 * (m * (a * 2 ^ k)) → ⊥
  not_below n read far =
      let w = a * 2 ^ k in
      let less : (m - 1) * w + w ≡ m * w = stepped (m - 1) m w (omega arith) in
      elim (cases_lt (n * 2 ^ low binary64) ((m - 1) * w)) [
        | inl h ↦
            let mid = between_read (from_bits binary64 bits) n a (m * 2 ^ k) (2 ^ low binary64) ((m - 1) * 2 ^ k) (2 ^ low binary64) pos A (pow_pos (low binary64)) (pow_pos (low binary64))
            (first n (2 ^ low binary64) (m - 1) (2 ^ k) a h) (mul-le-mul_right (2 ^ low binary64) (mul-le-mul_right (2 ^ k) (lower m))) read value_reads in
            not_before (bits_of ((m - 1) * 2 ^ k) (2 ^ low binary64) (scaled_bits binary64 (m - 1) k)
            (exactly ((m - 1) * 2 ^ k) (2 ^ low binary64) (m - 1) k (pow_pos (low binary64)) (regroup (m - 1) (2 ^ k) (2 ^ low binary64)) (omega arith) (λ K. omega (arith, normal K))) mid)
        | inr h ↦
            not_before (bits_of n a (scaled_bits binary64 (m - 1) k)
            (nearest_below binary64 n a (m - 1) k A (before n h (omega (arith, far))) (omega (arith, far, less))) read)
      ]
    where
      stepped : (p q w : ℕ) → p + 1 ≡ q → p * w + w ≡ q * w
      stepped p q w e = omega (arith, ap (λ z. z * w) e)

      lower : (q : ℕ) → q - 1 ≤ q
      lower q = omega arith

      first : (n l p t a : ℕ) → n * l < p * (a * t) → n * l ≤ p * t * a
      first n l p t a h = omega (arith, h)

      regroup : (a b c : ℕ) → a * b * c ≡ a * (c * b)
      regroup a b c = omega arith

  -- and no further above it than half way to the next float
  pub not_above : (n : ℕ) → m < 2 ^ prec binary64 → round binary64 false n a ≡ from_bits binary64 bits → 2 * (m * (a * 2 ^ k)) + a * 2 ^ k < 2 * (n * 2 ^ low binary64) → ⊥
  not_above n small read far =
      elim (cases_lt (n * 2 ^ low binary64) ((m + 1) * (a * 2 ^ k))) [
        | inl h ↦
            let just : IsJustAbove binary64 n a m k = record { significand = record { fits = small; normal = λ K. omega (arith, normal K) }; from = omega (arith, far); below = h } in
            not_after (bits_of n a (scaled_bits binary64 (m + 1) k) (nearest_above binary64 n a m k A just (omega (arith, far))) read)
        | inr h ↦
            let mid = between_read (from_bits binary64 bits) (m * 2 ^ k) (2 ^ low binary64) n a ((m + 1) * 2 ^ k) (2 ^ low binary64) pos (pow_pos (low binary64)) A (pow_pos (low binary64))
            (mul-le-mul_right (2 ^ low binary64) (mul-le-mul_right (2 ^ k) (upper m))) (last n (2 ^ low binary64) (m + 1) (2 ^ k) a h) value_reads read in
            not_after (bits_of ((m + 1) * 2 ^ k) (2 ^ low binary64) (scaled_bits binary64 (m + 1) k)
            (exactly ((m + 1) * 2 ^ k) (2 ^ low binary64) (m + 1) k (pow_pos (low binary64)) (regroup (m + 1) (2 ^ k) (2 ^ low binary64)) (omega arith) (λ K. omega (arith, normal K))) mid)
      ]
    where
      upper : (q : ℕ) → q ≤ q + 1
      upper q = omega arith

      last : (n l p t a : ℕ) → p * (a * t) ≤ n * l → p * t * a ≤ n * l
      last n l p t a h = omega (arith, h)

      regroup : (a b c : ℕ) → a * b * c ≡ a * (c * b)
      regroup a b c = omega arith

  -- at that point the double's significand is even
  even : (n : ℕ) → round binary64 false n a ≡ from_bits binary64 bits → 2 * (n * 2 ^ low binary64) + a * 2 ^ k ≡ 2 * (m * (a * 2 ^ k)) → m % 2 ≡ 0
  even n read at =
      let w = a * 2 ^ k in
      let W : 0 < w = mul-pos A (pow_pos k) in
      let less : (m - 1) * w + w ≡ m * w = stepped (m - 1) m w (omega arith) in
      let tie = nearest_tie binary64 n a (m - 1) k A (before n (omega (arith, at, less)) (omega (arith, at, W))) (omega (arith, at, less)) in
      let e = bits_of n a (scaled_bits binary64 (m - 1 + (m - 1) % 2) k) tie read in
      parity m k bits are e finite some
    where
      stepped : (p q w : ℕ) → p + 1 ≡ q → p * w + w ≡ q * w
      stepped p q w e = omega (arith, ap (λ z. z * w) e)

      parity : (m k bits : ℕ) → scaled_bits binary64 m k ≡ bits → scaled_bits binary64 (m - 1 + (m - 1) % 2) k ≡ bits → bits < ones binary64 * hid binary64 → 0 < m → m % 2 ≡ 0
      parity m k bits e f h p = omega arith

  -- as far above, half way at most: the double again
  tied : (n : ℕ) → m % 2 ≡ 0 → 2 * (n * 2 ^ low binary64) ≡ 2 * (m * (a * 2 ^ k)) + a * 2 ^ k → round binary64 false n a ≡ from_bits binary64 bits
  tied n e at =
      let w = a * 2 ^ k in
      let W : 0 < w = mul-pos A (pow_pos k) in
      elim (cases_lt m (2 ^ prec binary64)) [
        | inl small ↦
            let just : IsJustAbove binary64 n a m k = record { significand = record { fits = small; normal = λ K. omega (arith, normal K) }; from = omega (arith, at); below = omega (arith, at, W) } in
            let same : scaled_bits binary64 (m + m % 2) k ≡ bits = omega arith in
            as_bits n a (scaled_bits binary64 (m + m % 2) k) (nearest_tie binary64 n a m k A just (omega (arith, at))) same
        | inr large ↦
            let is : m ≡ 2 * hid binary64 = omega arith in
            let twice : a * 2 ^ suc k ≡ 2 * w = omega (arith, ap (λ z. a * z) (pow-suc 2 k)) in
            let all : m * w ≡ 2 * (hid binary64 * w) = ap (λ z. z * w) is ∙ omega arith in
            let h : hid binary64 * (a * 2 ^ suc k) ≡ 2 * (hid binary64 * w) = omega (arith, ap (λ z. hid binary64 * z) twice) in
            let just : IsJustAbove binary64 n a (hid binary64) (suc k) =
            record { significand = record { fits = omega arith; normal = λ K. omega arith }; from = omega (arith, at, all, h); below = omega (arith, at, all, h, twice, W) } in
            let same : scaled_bits binary64 (hid binary64) (suc k) ≡ bits = omega arith in
            as_bits n a (scaled_bits binary64 (hid binary64) (suc k)) (nearest_below binary64 n a (hid binary64) (suc k) A just (omega (arith, at, all, h, twice, W))) same
      ]

  -- the greater of two, which is no further from the double than the lesser
  greater_reads : (n g : ℕ) → round binary64 false n a ≡ from_bits binary64 bits → m * (a * 2 ^ k) ≤ g * 2 ^ low binary64 → g * 2 ^ low binary64 + n * 2 ^ low binary64 ≤ 2 * (m * (a * 2 ^ k))
      → round binary64 false g a ≡ from_bits binary64 bits
  greater_reads n g read from same =
      let w = a * 2 ^ k in
      let W : 0 < w = mul-pos A (pow_pos k) in
      elim (cases_lt (2 * (g * 2 ^ low binary64)) (2 * (m * w) + w)) [
        | inl near_it ↦
            as_bits g a (scaled_bits binary64 m k)
            (nearest_of_near binary64 g a m k A most (λ K. omega (arith, normal K)) (λ K. omega (arith, from, mul-le-mul_right w (least K))) (omega (arith, from, W)) near_it) are
        | inr far ↦ elim (cases_lt (2 * (n * 2 ^ low binary64) + w) (2 * (m * w))) [
          | inl below ↦ absurd (not_below n read below)
          | inr at ↦ tied g (even n read (omega (arith, at, far, same))) (omega (arith, at, far, same))
        ]
      ]
    where
      least : 0 < k → hid binary64 ≤ m
      least K = omega (arith, normal K)

-- ---- at a power

-- where some multiple reads, the nearest does or the one above it
pub nearest_reads : (bits row c : ℕ) → IsAboveZero bits → reads c row bits
    → (reads (near (from_bits binary64 bits) row) row bits) ⊎ (reads (near (from_bits binary64 bits) row + 1) row bits)
nearest_reads bits row c p read =
    let x = from_bits binary64 bits in
    let it = made bits p.1 in
    let m = it.0 in
    let k = it.1 in
    let r = it.2 in
    let pos = is-positive bits p in
    let q = near x row in
    let a = 10 ^ (342 - row) in
    let b = 10 ^ (row - 342) in
    let l = 2 ^ low binary64 in
    let A : 0 < a = ten_to_pos (342 - row) in
    let L : 0 < l = pow_pos (low binary64) in
    let half = closest-half (num x * a) (den x * b) (mul-pos (den_pos x) (ten_to_pos (row - 342))) in
    let value = value→cross x (m * 2 ^ k) l r.value in
    let lo = under q (num x) (den x) m (2 ^ k) a b l (den_pos x) value half.0 in
    let hi = over q (num x) (den x) m (2 ^ k) a b l (den_pos x) value half.1 in
    let some = first_pos m (2 ^ k) (value_pos x (m * 2 ^ k) l pos L r.value) in
    let self = value_reads bits m k a pos p.1 r.bits_are r.most r.normal some A in
    elim (cases_lt q c) [
      | inl more ↦
          inr (between_read x (m * 2 ^ k) l (c * b) a ((q + 1) * b) a pos L A A (next q b l m (2 ^ k) a hi) (mul-le-mul_right a (mul-le-mul_right b (up q c more))) self read)
      | inr most ↦ elim (cases_lt (m * (a * 2 ^ k)) (q * b * l)) [
        | inr under_it ↦
            inl (between_read x (c * b) a (m * 2 ^ k) l (q * b) a pos A L A (mul-le-mul_right a (mul-le-mul_right b most)) (moved (q * b * l) m (2 ^ k) a under_it) read self)
        | inl over_it ↦ elim (cases_lt c q) [
          | inr equal ↦
              let same : c ≡ q = omega arith in
              inl (subst (λ d. reads d row bits) same read)
          | inl less ↦
              let one : q - 1 + 1 ≡ q = omega arith in
              let lesser = between_read x (c * b) a (m * 2 ^ k) l ((q - 1) * b) a pos A L A (mul-le-mul_right a (mul-le-mul_right b (down c q less)))
              (moved ((q - 1) * b * l) m (2 ^ k) a (before_it q (q - 1) b l (m * (a * 2 ^ k)) one lo)) read self in
              inl (greater_reads bits m k a pos p.1 r.bits_are r.most r.normal some A ((q - 1) * b) (q * b) lesser (le_of_lt over_it) (both q (q - 1) b l (m * (a * 2 ^ k)) one lo))
        ]
      ]
    ]
  where
    up : (q c : ℕ) → q < c → q + 1 ≤ c
    up q c h = omega arith

    down : (c q : ℕ) → c < q → c ≤ q - 1
    down c q h = omega arith

    next : (q b l m t a : ℕ) → 2 * (m * (a * t)) ≤ 2 * (q * b * l) + b * l → m * t * a ≤ (q + 1) * b * l
    next q b l m t a h = omega (arith, h)

    moved : (n m t a : ℕ) → n ≤ m * (a * t) → n ≤ m * t * a
    moved n m t a h = omega (arith, h)

    before_it : (q s b l v : ℕ) → s + 1 ≡ q → 2 * (q * b * l) ≤ 2 * v + b * l → s * b * l ≤ v
    before_it q s b l v e h = omega (arith, h, ap (λ z. z * (b * l)) e)

    both : (q s b l v : ℕ) → s + 1 ≡ q → 2 * (q * b * l) ≤ 2 * v + b * l → q * b * l + s * b * l ≤ 2 * v
    both q s b l v e h = omega (arith, h, ap (λ z. z * (b * l)) e)

-- ---- over all powers

stops : (x : Float) (bits p k : ℕ) (b c : Bool) → k ≤ p → (b ≡ false → c ≡ false → k ≤ (search x bits p false false).1) → k ≤ (search x bits p b c).1
unfolding search
stops x bits p k true c h later = h
stops x bits p k false true h later = h
stops x bits p k false false h later = later refl refl

-- the search ends no lower than where some multiple reads
ends_above : (bits k n : ℕ) → k < n → (reads_as bits (near (from_bits binary64 bits) k) k ≡ true) ⊎ (reads_as bits (near (from_bits binary64 bits) k + 1) k ≡ true)
    → k ≤ (search (from_bits binary64 bits) bits n false false).1
unfolding search
ends_above bits k zero l h = absurd (omega arith)
ends_above bits k (suc p) l h =
    let x = from_bits binary64 bits in
    stops x bits p k (reads_as bits (near x p) p) (reads_as bits (near x p + 1) p) (omega arith)
    (λ e f. elim (cases_lt k p) [
      | inl m ↦ ends_above bits k p m h
      | inr g ↦
          let same : k ≡ p = omega arith in
          absurd (clash x same e f h)
    ])
  where
    clash : (x : Float) → k ≡ p → reads_as bits (near x p) p ≡ false → reads_as bits (near x p + 1) p ≡ false → (reads_as bits (near x k) k ≡ true) ⊎ (reads_as bits (near x k + 1) k ≡ true) → ⊥
    clash x same e f h = elim h [
      | inl a ↦ true≢false (sym a ∙ ap (λ j. reads_as bits (near x j) j) same ∙ e)
      | inr b ↦ true≢false (sym b ∙ ap (λ j. reads_as bits (near x j + 1) j) same ∙ f)
    ]

-- nothing in a row above 650 reads
pub too_great : (bits row c : ℕ) → IsAboveZero bits → 651 ≤ row → ¬ (reads c row bits)
too_great bits row zero p h read = zero-reads row bits (is-positive bits p) read
too_great bits row (suc c) p h read =
    let none : 342 - row ≡ 0 = omega arith in
    let one : 10 ^ (342 - row) ≡ 1 = ap (λ k. 10 ^ k) none in
    let many : 10 ^ 309 ≤ 10 ^ (row - 342) = larger 309 (row - 342) (omega arith) in
    let huge : 10 ^ 309 * 10 ^ (342 - row) ≤ suc c * 10 ^ (row - 342) = omega (arith, ap (λ z. 10 ^ 309 * z) one, many, mul-le-mul_right (10 ^ (row - 342)) (first c)) in
    let infinite = nearest_of_huge binary64 (suc c * 10 ^ (row - 342)) (10 ^ (342 - row)) (ten_to_pos (342 - row)) huge in
    let e = same_float (suc c * 10 ^ (row - 342)) (10 ^ (342 - row)) (ones binary64 * hid binary64) bits (is-positive bits p) (lit< tt) (omega arith) infinite read in
    absurd (omega arith)
  where
    larger : (i j : ℕ) → i ≤ j → 10 ^ i ≤ 10 ^ j
    larger i j g = pow-le-pow_right (lit< tt) g

    first : (c : ℕ) → 1 ≤ suc c
    first c = omega arith

-- the test in that row finds one of the two
some_test : (bits row c : ℕ) → IsAboveZero bits → reads c row bits → (reads_as bits (near (from_bits binary64 bits) row) row ≡ true) ⊎ (reads_as bits (near (from_bits binary64 bits) row + 1) row ≡ true)
some_test bits row c p read =
    elim (nearest_reads bits row c p read) [
      | inl a ↦ inl (reads_as-true bits (near (from_bits binary64 bits) row) row (omega arith) (is-positive bits p) a)
      | inr b ↦ inr (reads_as-true bits (near (from_bits binary64 bits) row + 1) row (omega arith) (is-positive bits p) b)
    ]

-- no multiple of a greater power than that of the definition reads as the double
pub none_greater : (bits row c : ℕ) → IsAboveZero bits → (shortest bits).1 < row → ¬ (reads c row bits)
unfolding shortest
none_greater bits row c p h read =
    elim (cases_lt row 651) [
      | inr g ↦ too_great bits row c p g read
      | inl l ↦ not-le_of_lt h (ends_above bits row 651 l (some_test bits row c p read))
    ]

-- and none with fewer digits does: the digits are at least 10 ^ e, and those below it
pub none_shorter : (bits row c e : ℕ) → IsAboveZero bits → c < 10 ^ e → 10 ^ e ≤ (shortest bits).0 → ¬ (reads c row bits)
none_shorter bits row c zero p few most read =
    let none : c ≡ 0 = omega arith in
    zero-reads row bits (is-positive bits p) (subst (λ d. reads d row bits) none read)
none_shorter bits row c (suc e) p few most read =
    elim (cases_lt (shortest bits).1 row) [
      | inl l ↦ none_greater bits row c p l read
      | inr g ↦ none_greater bits ((shortest bits).1 + 1) (10 ^ e) p (omega arith) (middle (shortest bits).0 (shortest bits).1 g most (shortest_reads bits p.1 (is-positive bits p)))
    ]
  where
    upper : (d power : ℕ) → 10 ^ suc e ≤ d → 10 ^ e * 10 ^ (power + 1 - 342) * 10 ^ (342 - power) ≤ d * 10 ^ (power - 342) * 10 ^ (342 - (power + 1))
    upper d power h =
        let v = 10 ^ (power - 342) * 10 ^ (342 - (power + 1)) in
        omega (arith, ap (λ z. 10 ^ e * z) (tens power), mul-le-mul_right v h, ap (λ z. z * v) (pow-suc 10 e))

    lower : (power : ℕ) → row ≤ power → c * 10 ^ (row - 342) * 10 ^ (342 - (power + 1)) ≤ 10 ^ e * 10 ^ (power + 1 - 342) * 10 ^ (342 - row)
    lower power h =
        let one : 1 * 10 ^ suc e * (10 ^ (row - 342) * 10 ^ (342 - (power + 1))) ≤ 1 * 10 ^ e * (10 ^ (power + 1 - 342) * 10 ^ (342 - row)) =
        subst (λ z. 1 * 10 ^ suc e * z ≤ 1 * 10 ^ e * (10 ^ (power + 1 - 342) * 10 ^ (342 - row))) (pow-add 10 (row - 342) (342 - (power + 1)))
        (subst (λ z. 1 * 10 ^ suc e * 10 ^ (row - 342 + (342 - (power + 1))) ≤ 1 * 10 ^ e * z) (pow-add 10 (power + 1 - 342) (342 - row)) (tens_le 1 1 (suc e) (row - 342 + (342 - (power + 1))) e (power + 1 - 342 + (342 - row)) (omega arith) (omega arith))) in
        omega (arith, one, mul-le-mul_right (10 ^ (row - 342) * 10 ^ (342 - (power + 1))) (le_of_lt few))

    middle : (d power : ℕ) → row ≤ power → 10 ^ suc e ≤ d → reads d power bits → reads (10 ^ e) (power + 1) bits
    middle d power h m back =
        between_read (from_bits binary64 bits) (c * 10 ^ (row - 342)) (10 ^ (342 - row)) (d * 10 ^ (power - 342)) (10 ^ (342 - power)) (10 ^ e * 10 ^ (power + 1 - 342)) (10 ^ (342 - (power + 1)))
        (is-positive bits p) (ten_to_pos (342 - row)) (ten_to_pos (342 - power)) (ten_to_pos (342 - (power + 1))) (lower power h) (upper d power m) read back

-- a last 0 of the digits goes to the power
tenth : (d row bits : ℕ) → reads (d * 10) row bits → reads d (row + 1) bits
tenth d row bits read =
    let sum : row + 1 - 342 + (342 - row) ≡ 1 + (row - 342) + (342 - (row + 1)) = omega arith in
    round_tens binary64 d (row + 1 - 342) (342 - (row + 1)) (1 + (row - 342)) (342 - row) sum
    ∙ ap (λ n. round binary64 false n (10 ^ (342 - row))) (ap (λ z. d * z) (pow-add 10 1 (row - 342)) ∙ regroup d (10 ^ (row - 342))) ∙ read
  where
    regroup : (a b : ℕ) → a * (10 * b) ≡ a * 10 * b
    regroup a b = omega arith

pub no_last_zero : (bits : ℕ) → IsAboveZero bits → (shortest bits).0 % 10 ≢ 0
no_last_zero bits p z =
    let is : (shortest bits).0 / 10 * 10 ≡ (shortest bits).0 = omega arith in
    none_greater bits ((shortest bits).1 + 1) ((shortest bits).0 / 10) p (omega arith)
    (tenth ((shortest bits).0 / 10) (shortest bits).1 bits (subst (λ d. reads d (shortest bits).1 bits) (sym is) (shortest_reads bits p.1 (is-positive bits p))))
