-- What one more limb adds, and how the last limbs that differ decide a comparison.
use Rattle.std.proofs.Common.{◌≡◌, ℕ, zero, suc, ◌+◌, ◌*◌, ◌/◌, ◌%◌, ◌^◌, ◌<◌, ◌≤◌, List, [], ◌∷◌, ◌++◌, length, take, set, get_or, refl, sym, ap, ◌∙◌, inl, inr, arith, pow-add, add-one, mul-le-mul_right}
use Rattle.std.proofs.lemmas.Bool.{cases_lt}
use Rattle.std.proofs.Math.Seq.{take-suc-set}
use Rattle.std.proofs.Math.Pow.{pow_mono}
use Rattle.std.proofs.lemmas.List.{length-take-le}
use borrow.Author.Tests.{lt-ltb, le-ltb, eq-eqb, ne_eqb}
use Rattle.std.specs.Ordering.{nat_cmp, ordering_then}
use Rattle.std.specs.declared.cmp.Ordering.TheVariants.{Less, Equal, Greater}
use Rattle.ion_float.specs.Limbs.{value}

-- what a 1 in the limb at n counts
abbrev pub weight : ℕ → ℕ
weight n = 2 ^ (64 * n)

pub weight-suc : (n : ℕ) → weight (n + 1) ≡ weight n * 2 ^ 64
weight-suc n =
    let e : 64 * (n + 1) ≡ 64 * n + 64 = omega arith in
    ap (λ k. 2 ^ k) e ∙ pow-add 2 (64 * n) 64

pub value-nil : value [] ≡ 0
unfolding value
value-nil = refl

pub value-append : (xs : List ℕ) (x : ℕ) → value (xs ++ x ∷ []) ≡ value xs + x * weight (length xs)
unfolding value
value-append [] x = omega arith
value-append (y ∷ ys) x =
    let e : weight (suc (length ys)) ≡ weight (length ys) * 2 ^ 64 = ap weight (sym (add-one (length ys))) ∙ weight-suc (length ys) in
    omega (arith, value-append ys x, ap (λ w. x * w) e)

value-take_suc : (xs : List ℕ) (n : ℕ) → value (take (suc n) xs) ≡ value (take n xs) + get_or xs n 0 * weight n
unfolding value
value-take_suc [] n = sym (ap value (none n)) ∙ omega arith
  where
    none : (k : ℕ) → take {A = ℕ} k [] ≡ []
    none zero = refl
    none (suc k) = refl
value-take_suc (x ∷ xs) zero = omega arith
value-take_suc (x ∷ xs) (suc n) =
    let e : weight (suc n) ≡ weight n * 2 ^ 64 = ap weight (sym (add-one n)) ∙ weight-suc n in
    omega (arith, value-take_suc xs n, ap (λ w. get_or xs n 0 * w) e)

pub value-take_more : (xs : List ℕ) (n : ℕ) → value (take (n + 1) xs) ≡ value (take n xs) + get_or xs n 0 * weight n
value-take_more xs n = ap (λ k. value (take k xs)) (add-one n) ∙ value-take_suc xs n

pub value-take_lt : (xs : List ℕ) (n : ℕ) → ((k : ℕ) → get_or xs k 0 < 2 ^ 64) → value (take n xs) < weight n
value-take_lt xs zero h = omega (arith, value-nil)
value-take_lt xs (suc n) h =
    let e : weight (suc n) ≡ weight n * 2 ^ 64 = ap weight (sym (add-one n)) ∙ weight-suc n in
    omega (arith, e, value-take_suc xs n, value-take_lt xs n h, mul-le-mul_right (weight n) (h n))

-- the limb at i is written, and those before it stay
pub value-take_set : (xs : List ℕ) (i v : ℕ) → i < length xs → value (take (i + 1) (set xs i v)) ≡ value (take i xs) + v * weight i
value-take_set xs i v h =
    ap (λ k. value (take k (set xs i v))) (add-one i) ∙ ap value (take-suc-set xs i v h) ∙ value-append (take i xs) v
    ∙ ap (λ k. value (take i xs) + v * weight k) (length-take-le i xs (omega arith))

pub weight_mono : (m n : ℕ) → m ≤ n → weight m ≤ weight n
weight_mono m n h = pow_mono (omega arith)

-- one limb's step of a multiplication
pub multiply_step : (done old limb factor carry w : ℕ) → done + carry * w ≡ old * factor
    → done + (limb * factor + carry) % 2 ^ 64 * w + (limb * factor + carry) / 2 ^ 64 * (w * 2 ^ 64) ≡ (old + limb * w) * factor
multiply_step done old limb factor carry w h =
    let wide = limb * factor + carry in
    let parts : wide % 2 ^ 64 + wide / 2 ^ 64 * 2 ^ 64 ≡ limb * factor + carry = omega arith in
    omega (arith, h, ap (λ t. t * w) parts)

-- ---- comparison

pub cmp-less : (a b : ℕ) → a < b → nat_cmp a b ≡ Less
cmp-less a b h = rw (lt-ltb a b h)

pub cmp-equal : (a b : ℕ) → a ≡ b → nat_cmp a b ≡ Equal
cmp-equal a b h = rw (le-ltb a b (omega arith), eq-eqb a b h)

pub cmp-greater : (a b : ℕ) → b < a → nat_cmp a b ≡ Greater
cmp-greater a b h = rw (le-ltb a b (omega arith), ne_eqb a b (λ e. omega arith))

-- the limbs x and y stand above p and q, and decide where they differ
pub cmp_step : (p q x y w : ℕ) → p < w → q < w → nat_cmp (p + x * w) (q + y * w) ≡ ordering_then (nat_cmp x y) (nat_cmp p q)
cmp_step p q x y w P Q =
    elim (cases_lt x y) [
      | inl l ↦
          let step : x + 1 ≤ y = omega arith in
          rw (cmp-less x y l) (cmp-less (p + x * w) (q + y * w) (omega (arith, mul-le-mul_right w step)))
      | inr g ↦ elim (cases_lt y x) [
        | inl m ↦
            let step : y + 1 ≤ x = omega arith in
            rw (cmp-greater x y m) (cmp-greater (p + x * w) (q + y * w) (omega (arith, mul-le-mul_right w step)))
        | inr e ↦
            let same : x ≡ y = omega arith in
            rw (cmp-equal x y same) (below (ap (λ z. z * w) same))
      ]
    ]
  where
    below : x * w ≡ y * w → nat_cmp (p + x * w) (q + y * w) ≡ nat_cmp p q
    below e = elim (cases_lt p q) [
      | inl l ↦ cmp-less (p + x * w) (q + y * w) (omega arith) ∙ sym (cmp-less p q l)
      | inr g ↦ elim (cases_lt q p) [
        | inl m ↦ cmp-greater (p + x * w) (q + y * w) (omega arith) ∙ sym (cmp-greater p q m)
        | inr f ↦ cmp-equal (p + x * w) (q + y * w) (omega arith) ∙ sym (cmp-equal p q (omega arith))
      ]
    ]

-- ---- and back from what a comparison says

pub cmp-says_less : (a b : ℕ) → Less ≡ nat_cmp a b → a < b
cmp-says_less a b h = elim (cases_lt a b) [
  | inl l ↦ l
  | inr g ↦ elim (cases_lt b a) [ inl m ↦ absurd (clash (h ∙ cmp-greater a b m)) | inr e ↦ absurd (clash_equal (h ∙ cmp-equal a b (omega arith))) ]
]
  where
    clash : Less ≡ Greater → ⊥
    clash e = cc

    clash_equal : Less ≡ Equal → ⊥
    clash_equal e = cc

pub cmp-says_equal : (a b : ℕ) → Equal ≡ nat_cmp a b → a ≡ b
cmp-says_equal a b h = elim (cases_lt a b) [
  | inl l ↦ absurd (clash (h ∙ cmp-less a b l))
  | inr g ↦ elim (cases_lt b a) [ inl m ↦ absurd (clash_greater (h ∙ cmp-greater a b m)) | inr e ↦ omega arith ]
]
  where
    clash : Equal ≡ Less → ⊥
    clash e = cc

    clash_greater : Equal ≡ Greater → ⊥
    clash_greater e = cc

pub cmp-says_greater : (a b : ℕ) → Greater ≡ nat_cmp a b → b < a
cmp-says_greater a b h = elim (cases_lt a b) [
  | inl l ↦ absurd (clash (h ∙ cmp-less a b l))
  | inr g ↦ elim (cases_lt b a) [ inl m ↦ m | inr e ↦ absurd (clash_equal (h ∙ cmp-equal a b (omega arith))) ]
]
  where
    clash : Greater ≡ Less → ⊥
    clash e = cc

    clash_equal : Greater ≡ Equal → ⊥
    clash_equal e = cc
