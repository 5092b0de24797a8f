-- The text of a float by its bits.
use Rattle.std.proofs.Common.{◌≡◌, ℕ, zero, suc, ◌+◌, ◌-◌, ◌*◌, ◌/◌, ◌%◌, ◌^◌, ◌<◌, ◌≤◌, ◌≢◌, pos, negsuc, neg_ℤ, w32, SFits, to_z, of_z, ◌≤ℤ◌, ℤ, Bool, true, false, cond, T, List, [], ◌∷◌, ◌++◌, length, codes, from_bits, inl, inr, refl, sym, ap, ◌∙◌, subst, arith}
use mathlib.Core.Bool.{true≢false}
use native.Mathlib.Nat.{eq-zero-or-pos}
use Rattle.std.specs.Fmt.{decimal, signed_decimal}
use Rattle.std.proofs.lemmas.Fmt.{length-decimal-le, length_signed_le}
use Rattle.std.proofs.lemmas.Int.{ints, to_z-of_z}
use Rattle.ion_value.proofs.TextDecimals.{spells}
use lib.Dec.{leb, eqb, le→leb}
use lib.Ieee.{Float, nan, inf, fin, Format, binary64, prec, low, hid, top, ones, odd, is_nan, of_fields, of_bits, to_bits}
use lib.Ieee.Bits.{to_bits-of_bits, nan_bits_is, nan_bits_above, is_true}
use lib.Ieee.Positive.{positive}
use Rattle.std.proofs.lemmas.Bool.{cases_lt, lt-ltb, leb-true, false_from_ne_true}
use Rattle.std.specs.Float.{float_with_sign}
use Rattle.ion_value.specs.Shortest.{IsAboveZero, near, reads_as, search, shortest}
use Rattle.ion_value.specs.FloatText.{digits_text, float_text}
use Rattle.ion_value.proofs.FloatBits.{infinite-bits, below-bits, nan_above, nan_there}
use Rattle.ion_float.proofs.Between.{positive-number}
use Rattle.ion_float.proofs.Reading.{is-positive}

-- ---- no number, and infinities

no_number : (x : Float) → is_nan x ≡ true → codes "nan" ≡ float_text x
unfolding is_nan
no_number nan h = refl
no_number (inf s) h = absurd (true≢false (sym h))
no_number (fin s m e) h = absurd (true≢false (sym h))

pub no_number-bits : (x : Float) (bits : ℕ) → from_bits binary64 bits ≡ x → bits < 2 ^ 64 → 2047 * 2 ^ 52 ≤ bits % 2 ^ 63 → bits ≢ 9218868437227405312 → bits ≢ 18442240474082181120 → codes "nan" ≡ float_text x
no_number-bits x bits e fits least a b =
    let above : ones binary64 * hid binary64 < bits % top binary64 = omega arith in
    no_number x (ap is_nan (sym e) ∙ sym (nan_bits_is binary64 bits) ∙ nan_bits_above binary64 bits ∙ lt-ltb (ones binary64 * hid binary64) (bits % top binary64) above)

pub infinite : (x : Float) (bits : ℕ) → from_bits binary64 bits ≡ x → bits ≡ 9218868437227405312 → codes "+inf" ≡ float_text x
infinite x bits e b = ap float_text (sym infinite-bits ∙ ap (from_bits binary64) (sym b) ∙ e)

pub infinite_below : (x : Float) (bits : ℕ) → from_bits binary64 bits ≡ x → bits ≡ 18442240474082181120 → codes "-inf" ≡ float_text x
infinite_below x bits e b = ap float_text (sym below-bits ∙ ap (from_bits binary64) (sym b) ∙ e)

-- ---- the sign

pub odd_sign : (d : ℕ) (s : Bool) (q k l : ℕ) → odd d s q k l ≡ float_with_sign s (odd d false q k l)
unfolding odd float_with_sign
odd_sign d s zero k l = refl
odd_sign d s (suc q) k l = refl

nan_sign : (a b s : Bool) (x y : Float) → x ≡ float_with_sign s y
    → cond a (cond b (inf s) nan) x ≡ float_with_sign s (cond a (cond b (inf false) nan) y)
unfolding float_with_sign
nan_sign true true s x y h = refl
nan_sign true false s x y h = refl
nan_sign false b s x y h = h

fields_sign : (f : Format) (s : Bool) (x t : ℕ) → of_fields f s x t ≡ float_with_sign s (of_fields f false x t)
unfolding of_fields
fields_sign f s zero t = odd_sign (prec f) s t 0 (low f)
fields_sign f s (suc x) t =
    nan_sign (eqb (suc x) (ones f)) (eqb t 0) s (odd (prec f) s (hid f + t) x (low f)) (odd (prec f) false (hid f + t) x (low f)) (odd_sign (prec f) s (hid f + t) x (low f))

fields_of : (bits : ℕ) → from_bits binary64 bits ≡ of_fields binary64 (leb (2 ^ 63) bits) (bits % 2 ^ 63 / 2 ^ 52) (bits % 2 ^ 52)
unfolding of_bits
fields_of bits = refl

not-le : (a b : ℕ) → a < b → leb b a ≡ false
not-le a b h = false_from_ne_true (leb b a) (λ e. absurd (omega (arith, leb-true b a e)))

sign-bits : (bits : ℕ) → 2 ^ 63 ≤ bits → bits < 2 ^ 64 → from_bits binary64 bits ≡ float_with_sign true (from_bits binary64 (bits - 2 ^ 63))
sign-bits bits l h =
    let r = bits - 2 ^ 63 in
    let more : leb (2 ^ 63) bits ≡ true = is_true (leb (2 ^ 63) bits) (le→leb (2 ^ 63) bits l) in
    let less : leb (2 ^ 63) r ≡ false = not-le r (2 ^ 63) (omega arith) in
    let same : bits % 2 ^ 63 ≡ r % 2 ^ 63 = omega arith in
    let low_same : bits % 2 ^ 52 ≡ r % 2 ^ 52 = omega arith in
    fields_of bits
    ∙ ap (λ (s : Bool). of_fields binary64 s (bits % 2 ^ 63 / 2 ^ 52) (bits % 2 ^ 52)) more
    ∙ ap (λ (z : ℕ). of_fields binary64 true (z / 2 ^ 52) (bits % 2 ^ 52)) same
    ∙ ap (λ (z : ℕ). of_fields binary64 true (r % 2 ^ 63 / 2 ^ 52) z) low_same
    ∙ fields_sign binary64 true (r % 2 ^ 63 / 2 ^ 52) (r % 2 ^ 52)
    ∙ ap (λ (s : Bool). float_with_sign true (of_fields binary64 s (r % 2 ^ 63 / 2 ^ 52) (r % 2 ^ 52))) (sym less)
    ∙ ap (float_with_sign true) (sym (fields_of r))

minus_positive : (x : Float) → T (positive x) → 45 ∷ float_text x ≡ float_text (float_with_sign true x)
unfolding float_with_sign
minus_positive nan p = absurd p
minus_positive (inf s) p = absurd p
minus_positive (fin true m e) p = absurd p
minus_positive (fin false m e) p = refl

minus_zero : 45 ∷ float_text (from_bits binary64 0) ≡ float_text (float_with_sign true (from_bits binary64 0))
unfolding float_with_sign of_bits
minus_zero = refl

-- a minus stands before the text of the magnitude
pub minus_text : (bits : ℕ) → 2 ^ 63 ≤ bits → bits < 2 ^ 64 → bits % 2 ^ 63 < 2047 * 2 ^ 52
    → 45 ∷ float_text (from_bits binary64 (bits - 2 ^ 63)) ≡ float_text (from_bits binary64 bits)
minus_text bits l h finite =
    let r = bits - 2 ^ 63 in
    rw (sign-bits bits l h) (elim (eq-zero-or-pos r) [
      | inl z ↦ rw z minus_zero
      | inr p ↦ minus_positive (from_bits binary64 r) (is-positive r (p, omega arith))
    ])

-- ---- magnitudes

number_text : (x : Float) → T (positive x) → digits_text (shortest (to_bits binary64 x)) ≡ float_text x
number_text nan p = absurd p
number_text (inf s) p = absurd p
number_text (fin true m e) p = absurd p
number_text (fin false zero e) p = absurd p
number_text (fin false (suc m) e) p = refl

pub above_text : (bits : ℕ) → IsAboveZero bits → digits_text (shortest bits) ≡ float_text (from_bits binary64 bits)
above_text bits h =
    let p = is-positive bits h in
    ap (λ (b : ℕ). digits_text (shortest b)) (sym (to_bits-of_bits binary64 bits (omega (arith, h.1)) (positive-number _ p)))
    ∙ number_text (from_bits binary64 bits) p

-- ---- the row

search-row : (x : Float) (bits n : ℕ) (b c : Bool) → (search x bits n b c).1 ≤ n
unfolding search
search-row x bits n true c = omega arith
search-row x bits n false true = omega arith
search-row x bits zero false false = omega arith
search-row x bits (suc n) false false = let more = search-row x bits n (reads_as bits (near x n) n) (reads_as bits (near x n + 1) n) in step more
  where
    step : {a b : ℕ} → a ≤ b → a ≤ suc b
    step h = omega arith

pub shortest-row : (bits : ℕ) → (shortest bits).1 ≤ 651
unfolding shortest
shortest-row bits = search-row (of_bits binary64 bits) bits 651 false false

-- ---- the bits of a float above zero

sign-other : (y : Float) (m : ℕ) (e : ℤ) → float_with_sign true y ≡ fin false (suc m) e → ⊥
unfolding float_with_sign
sign-other nan m e h = cc
sign-other (inf s) m e h = cc
sign-other (fin s n d) m e h = cc

zero-other : (m : ℕ) (e : ℤ) → from_bits binary64 0 ≡ fin false (suc m) e → ⊥
unfolding of_bits
zero-other m e h = cc

infinite-other : (m : ℕ) (e : ℤ) → inf false ≡ fin false (suc m) e → ⊥
infinite-other m e h = cc

nan-other : (m : ℕ) (e : ℤ) → nan ≡ fin false (suc m) e → ⊥
nan-other m e h = cc

above-least : (bits m : ℕ) (e : ℤ) → from_bits binary64 bits ≡ fin false (suc m) e → 0 < bits
above-least bits m e h = elim (eq-zero-or-pos bits) [
  | inl z ↦ absurd (zero-other m e (rw z at h))
  | inr p ↦ p
]

below-sign : (bits m : ℕ) (e : ℤ) → bits < 2 ^ 64 → from_bits binary64 bits ≡ fin false (suc m) e → bits < 2 ^ 63
below-sign bits m e fits h = elim (cases_lt bits (2 ^ 63)) [
  | inl l ↦ l
  | inr g ↦ absurd (sign-other (from_bits binary64 (bits - 2 ^ 63)) m e (sym (sign-bits bits g fits) ∙ h))
]

pub above-zero : (bits m : ℕ) (e : ℤ) → bits < 2 ^ 64 → from_bits binary64 bits ≡ fin false (suc m) e → IsAboveZero bits
above-zero bits m e fits h =
    let low = below-sign bits m e fits h in
    let most : bits < 2047 * 2 ^ 52 = elim (cases_lt bits (2047 * 2 ^ 52)) [
      | inl l ↦ l
      | inr g ↦ elim (cases_lt (2047 * 2 ^ 52) bits) [
        | inl l ↦ absurd (nan-other m e (sym nan_there ∙ nan_above bits (omega arith) ∙ h))
        | inr k ↦ let same : bits ≡ 9218868437227405312 = omega arith in absurd (infinite-other m e (sym infinite-bits ∙ ap (from_bits binary64) (sym same) ∙ h))
      ]
    ] in
    (above-least bits m e h, most)

-- ---- lengths

pub exponent-short : (z : ℤ) → neg_ℤ (pos 342) ≤ℤ z → z ≤ℤ pos 325 → length (signed_decimal z) ≤ 4
exponent-short (pos n) l h = length_signed_le 3 (pos n) (omega (arith, ints)) (omega (arith, ints))
exponent-short (negsuc n) l h = length_signed_le 3 (negsuc n) (omega (arith, ints)) (omega (arith, ints))

pub digits-short : (n : ℕ) → n < 10 ^ 17 → length (decimal n) ≤ 17
digits-short n h = length-decimal-le 17 n (omega arith) h (omega arith)

pub digits-some : (n : ℕ) → n < 10 ^ 17 → 1 ≤ length (decimal n)
digits-some n h = (spells n (omega arith)).some

pub after-nothing : (old text new : List ℕ) → old ≡ [] → new ≡ old ++ text → new ≡ text
after-nothing old text new e h = rw e at h

-- ---- what is pushed

pub exponent-passed : (z : ℤ) (text : List ℕ) → SFits w32 z → neg_ℤ (pos 342) ≤ℤ z → z ≤ℤ pos 325 → text ≡ signed_decimal (to_z w32 (of_z w32 z)) → length text ≤ 4
exponent-passed z text fits l h e =
    subst (λ (t : List ℕ). length t ≤ 4) (sym (e ∙ ap signed_decimal (to_z-of_z w32 z fits))) (exponent-short z l h)
