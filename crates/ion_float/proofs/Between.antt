-- Between two fractions that do not read as a float there is none that does.
use Rattle.std.proofs.Common.{◌≡◌, ℕ, ◌+◌, ◌-◌, ◌*◌, ◌/◌, ◌^◌, ◌<◌, ◌≤◌, true, false, ◌⊎◌, T, cond, refl, sym, ap, ◌∙◌, subst, inl, inr, arith, mul-le-mul_right}
use Rattle.std.proofs.lemmas.Bool.{cases_lt}
use native.Mathlib.Nat.{le_antisymm}
use lib.Ieee.{Float, nan, inf, fin, Format, low, prec, hid, top, up, down, size, round, fits, le, to_bits, of_bits}
use lib.Ieee.Fits.{down_pos, round-fits}
use lib.Ieee.Bits.{of_bits-to_bits}
use lib.Ieee.Order.{round_mono}
use lib.Ieee.Nearest.{div_same}
use lib.Ieee.Positive.{positive, num, den, le→cross, between}
use lib.Ieee.{binary64, is_nan}
use mathlib.Core.Bool.{not}
use Rattle.std.specs.Prelude.{from_bits}
use Rattle.std.proofs.Common.{pow-add}
use lib.Ieee.Bits.{to_bits-of_bits}
use Rattle.fast_float.specs.Rounding.{IsNearestBits}
use Rattle.fast_float.proofs.ExactLemmas.{ten_to_pos}
use Rattle.fast_float.proofs.Extremes.{nearest_of_zero}
use Rattle.ion_value.specs.Shortest.{reads, IsPositive, NoneAbove}

same_bits : (f : Format) (x y : Float) → T (positive x) → T (positive y) → num x * den y ≡ num y * den x → to_bits f x ≡ to_bits f y
unfolding to_bits
same_bits f nan y p q h = absurd p
same_bits f (inf s) y p q h = absurd p
same_bits f (fin true m e) y p q h = absurd p
same_bits f (fin false m e) nan p q h = absurd q
same_bits f (fin false m e) (inf t) p q h = absurd q
same_bits f (fin false m e) (fin true n d) p q h = absurd q
same_bits f (fin false m e) (fin false n d) p q h =
    ap (λ (w : ℕ). cond false (top f) 0 + (size w - prec f) * hid f + w / 2 ^ (size w - prec f))
    (div_same (m * up e * 2 ^ low f) (down e) (n * up d * 2 ^ low f) (down d) (down_pos e) (down_pos d) (scaled (m * up e) (n * up d) (down e) (down d) (2 ^ low f) h))
  where
    scaled : (a b c d l : ℕ) → a * d ≡ b * c → a * l * d ≡ b * l * c
    scaled a b c d l h = omega (arith, ap (λ z. z * l) h)

-- finite floats above zero that are each at most the other are one
pub le-antisymm : (f : Format) (x y : Float) → T (fits f x) → T (fits f y) → T (positive x) → T (positive y) → T (le x y) → T (le y x) → x ≡ y
le-antisymm f x y a b p q h k =
    sym (of_bits-to_bits f x a) ∙ ap (λ w. of_bits f w) (same_bits f x y p q (le_antisymm (le→cross x y p q h) (le→cross y x q p k))) ∙ of_bits-to_bits f y b

-- what lies between two fractions that read as a float reads as it
pub squeezed : (f : Format) (x : Float) (a b : ℕ) → T (positive x) → T (le x (round f false a b)) → T (le (round f false a b) x) → T (fits f x) → round f false a b ≡ x
squeezed f x a b p from to fit =
    let q = between x (round f false a b) x p p from to in
    le-antisymm f (round f false a b) x (round-fits f false a b) fit q p to from

-- a multiple of num / den reads as x, and so does a / b, between the multiples front and front + 1: one of these two reads as x
pub one_of_two : (f : Format) (x : Float) (front more num den a b : ℕ) → T (positive x) → 0 < den → 0 < b
    → front * num * b ≤ a * den → a * den ≤ (front + 1) * num * b → round f false a b ≡ x → round f false (more * num) den ≡ x
    → (round f false (front * num) den ≡ x) ⊎ (round f false ((front + 1) * num) den ≡ x)
one_of_two f x front more num den a b p D B from to read other =
    let fit : T (fits f x) = subst (λ z. T (fits f z)) read (round-fits f false a b) in
    elim (cases_lt more (front + 1)) [
      | inl l ↦
          let step : more * num * den ≤ front * num * den = mul-le-mul_right den (mul-le-mul_right num (below l)) in
          let low = subst (λ z. T (le z (round f false (front * num) den))) other (round_mono f (more * num) den (front * num) den D D step) in
          let high = subst (λ z. T (le (round f false (front * num) den) z)) read (round_mono f (front * num) den a b D B from) in
          inl (squeezed f x (front * num) den p low high fit)
      | inr g ↦
          let step : (front + 1) * num * den ≤ more * num * den = mul-le-mul_right den (mul-le-mul_right num g) in
          let low = subst (λ z. T (le z (round f false ((front + 1) * num) den))) read (round_mono f a b ((front + 1) * num) den B D to) in
          let high = subst (λ z. T (le (round f false ((front + 1) * num) den) z)) other (round_mono f ((front + 1) * num) den (more * num) den D D step) in
          inr (squeezed f x ((front + 1) * num) den p low high fit)
    ]
  where
    below : {m n : ℕ} → m < n + 1 → m ≤ n
    below h = omega (arith, h)

-- ---- at powers of ten

pub tens : (power : ℕ) → 10 ^ (power + 1 - 342) * 10 ^ (342 - power) ≡ 10 * (10 ^ (power - 342) * 10 ^ (342 - (power + 1)))
tens power =
    let sum : power + 1 - 342 + (342 - power) ≡ 1 + (power - 342) + (342 - (power + 1)) = omega arith in
    let one : 10 ^ 1 ≡ 10 = refl in
    sym (pow-add 10 (power + 1 - 342) (342 - power)) ∙ ap (λ k. 10 ^ k) sum ∙ pow-add 10 (1 + (power - 342)) (342 - (power + 1))
    ∙ ap (λ z. z * 10 ^ (342 - (power + 1))) (pow-add 10 1 (power - 342)) ∙ grouped (10 ^ 1) (10 ^ (power - 342)) (10 ^ (342 - (power + 1))) one
  where
    grouped : (o a b : ℕ) → o ≡ 10 → o * a * b ≡ 10 * (a * b)
    grouped o a b e = omega (arith, ap (λ z. z * (a * b)) e)

-- digits at a power read as a float, and neither of the two multiples of the next power around them does: then none does
pub none_above : (digits power bits : ℕ) → IsPositive bits → reads digits power bits
    → ¬ (reads (digits / 10) (power + 1) bits) → ¬ (reads (digits / 10 + 1) (power + 1) bits) → NoneAbove power bits
none_above digits power bits p read down up more other =
    let front = digits / 10 in
    let t = 10 ^ (power - 342) * 10 ^ (342 - (power + 1)) in
    let from = mul-le-mul_right t (lower digits) in
    let to = mul-le-mul_right t (upper digits) in
    elim (one_of_two binary64 (from_bits binary64 bits) front more (10 ^ (power + 1 - 342)) (10 ^ (342 - (power + 1))) (digits * 10 ^ (power - 342)) (10 ^ (342 - power))
    p (ten_to_pos _) (ten_to_pos _)
    (first front digits _ _ _ _ (tens power) from) (second (front + 1) digits _ _ _ _ (tens power) to) read other) [
      | inl a ↦ absurd (down a)
      | inr b ↦ absurd (up b)
    ]
  where
    lower : (d : ℕ) → d / 10 * 10 ≤ d
    lower d = omega arith

    upper : (d : ℕ) → d ≤ (d / 10 + 1) * 10
    upper d = omega arith

    first : (k d a b c e : ℕ) → a * b ≡ 10 * (c * e) → k * 10 * (c * e) ≤ d * (c * e) → k * a * b ≤ d * c * e
    first k d a b c e same h = omega (arith, ap (λ z. k * z) same, h)

    second : (k d a b c e : ℕ) → a * b ≡ 10 * (c * e) → d * (c * e) ≤ k * 10 * (c * e) → d * c * e ≤ k * a * b
    second k d a b c e same h = omega (arith, ap (λ z. k * z) same, h)

pub positive-number : (x : Float) → T (positive x) → T (not (is_nan x))
unfolding is_nan
positive-number nan p = absurd p
positive-number (inf s) p = tt
positive-number (fin s m e) p = tt

-- the bits of a nearest float are those of the float that it is
pub same_float : (num den r bits : ℕ) → IsPositive bits → r < 2 ^ 64 → bits < 2 ^ 64 → IsNearestBits binary64 num den r → round binary64 false num den ≡ from_bits binary64 bits → r ≡ bits
same_float num den r bits p small fits near e =
    let same : from_bits binary64 r ≡ from_bits binary64 bits = near.0 ∙ e in
    let q : T (positive (of_bits binary64 r)) = subst (λ x. T (positive x)) (sym same) p in
    sym (to_bits-of_bits binary64 r small (positive-number _ q)) ∙ ap (λ x. to_bits binary64 x) same ∙ to_bits-of_bits binary64 bits fits (positive-number _ p)

-- zero does not read as a float above zero
pub zero-reads : (power bits : ℕ) → IsPositive bits → ¬ (reads 0 power bits)
unfolding of_bits
zero-reads power bits p e =
    let none = nearest_of_zero binary64 (0 * 10 ^ (power - 342)) (10 ^ (342 - power)) (ten_to_pos _) (omega arith) in
    let q : T (positive (of_bits binary64 0)) = subst (λ x. T (positive x)) (sym (none.0 ∙ e)) p in
    absurd q
