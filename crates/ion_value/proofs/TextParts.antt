-- The steps in which the code reads a timestamp in text are the definition's.
use Rattle.std.proofs.Common.{◌≡◌, ◌≢◌, ◌⊎◌, ℕ, suc, ◌<◌, ◌≤◌, Bool, true, false, ◌&&◌, ◌==◌, nat_lt, nat_le, Err, List, [], ◌∷◌, ◌++◌, length, drop, get_or, map, inl, inr, refl, sym, ap, ◌∙◌, arith}
use Rattle.std.proofs.lemmas.Bool.{cases_Bool, ne_eqb, ltb-false, le-leb}
use Rattle.std.proofs.lemmas.Bool.Decides.{nat_tests}
use Rattle.std.proofs.lemmas.List.{append-nil}
use Rattle.std.proofs.Math.Bool.{and-false}
use Rattle.ion_meter.specs.declared.fault.Reason.TheVariants.{BadToken}
use Rattle.ion_value.specs.declared.timestamp.Timestamp.{Timestamp}
use Rattle.ion_value.specs.declared.timestamp_text.Digits.{Digits}
use Rattle.ion_value.specs.Number.{number}
use Rattle.ion_value.specs.Digits.{is_digit, digit_value, first_is, all_are, cut_at}
use Rattle.ion_value.specs.Timestamp.{is_offset_mark, has_offset_shape}
use Rattle.ion_value.specs.TimestampRuns.{with_offset, with_fraction, with_point, after_second, AreLeading, is_no_digit}
use Rattle.ion_value.proofs.LeadingDigits.{cut-parts, all_are-append}

-- ---- marks of an offset

pub digit-no_mark : (b : ℕ) → is_digit b ≡ true → is_offset_mark b ≡ false
digit-no_mark b e = grind (arith, nat_tests)

-- an offset begins with its mark
pub shape-mark : (b : ℕ) (bytes : List ℕ) → is_offset_mark b ≡ false → has_offset_shape (b ∷ bytes) ≡ false
shape-mark b bytes e =
    let z : (90 == b) ≡ false = grind (arith, nat_tests) in
    let plus : (43 == b) ≡ false = grind (arith, nat_tests) in
    let minus : (45 == b) ≡ false = grind (arith, nat_tests) in
    rw (z, plus, minus) refl

first-true : (x y : Bool) → (x && y) ≡ true → x ≡ true
first-true true y e = refl
first-true false y e = e

-- digits are cut off whole
mark-cut : (ds bytes : List ℕ) → all_are is_digit ds ≡ true
    → cut_at is_offset_mark (ds ++ bytes) ≡ (ds ++ (cut_at is_offset_mark bytes).0, (cut_at is_offset_mark bytes).1)
unfolding cut_at
mark-cut [] bytes all = refl
mark-cut (d ∷ ds) bytes all =
    elim (cases_Bool (is_digit d)) [
      | inl e ↦
          let rest : all_are is_digit ds ≡ true = rw e at all in
          rw (digit-no_mark d e, mark-cut ds bytes rest) refl
      | inr e ↦ let f = rw e at all in absurd (cc)
    ]

-- ---- what stands after the second

-- what is cut off after digits
data AfterDigits (bytes : List ℕ) : List ℕ × List ℕ → Type 0 where
  mark : AfterDigits bytes ([], bytes)
  other : (s o : List ℕ) → all_are is_digit s ≡ false → has_offset_shape bytes ≡ false → AfterDigits bytes (s, o)

after-digits : (bytes : List ℕ) → first_is is_digit bytes ≡ false → AfterDigits bytes (cut_at is_offset_mark bytes)
unfolding cut_at
after-digits [] none = mark
after-digits (b ∷ bytes) none =
    elim (cases_Bool (is_offset_mark b)) [
      | inl e ↦ rw e mark
      | inr e ↦
          let no_digits : all_are is_digit (b ∷ (cut_at is_offset_mark bytes).0) ≡ false = rw none refl in
          rw e (other (b ∷ (cut_at is_offset_mark bytes).0) (cut_at is_offset_mark bytes).1 no_digits (shape-mark b bytes e))
    ]

-- with no offset after them
fraction-bad : (t : Timestamp) (count n : ℕ) (bytes : List ℕ) → has_offset_shape bytes ≡ false → with_fraction t count n bytes ≡ Err BadToken
fraction-bad t count n bytes e =
    elim (cases_Bool (count == 0)) [
      | inl z ↦ rw z refl
      | inr z ↦ elim (cases_Bool (nat_lt 38 count)) [ inl l ↦ rw (z, l, e) refl | inr l ↦ rw (z, l, e) refl ]
    ]

point-bad : (t : Timestamp) (ds o : List ℕ) → all_are is_digit ds ≡ false → with_point t (46 ∷ ds) o ≡ Err BadToken
point-bad t ds o e = simp (e, and-false)

point-digits : (t : Timestamp) (ds bytes : List ℕ) (n : ℕ) → all_are is_digit ds ≡ true → (nat_le (length ds) 38 ≡ true → n ≡ number 10 (map digit_value ds))
    → with_fraction t (length ds) n bytes ≡ with_point t (46 ∷ ds) bytes
point-digits t [] bytes n all value = refl
point-digits t (d ∷ ds) bytes n all value =
    let digit : is_digit d ≡ true = first-true (is_digit d) (all_are is_digit ds) all in
    let some : (suc (length ds) == 0) ≡ false = ne_eqb (suc (length ds)) 0 (λ e. absurd (omega arith)) in
    elim (cases_Bool (has_offset_shape bytes)) [
      | inl shape ↦ elim (cases_Bool (nat_lt 38 (suc (length ds)))) [
        | inl long ↦ rw (some, all, digit, shape, long) refl
        | inr short ↦
            let few : nat_le (suc (length ds)) 38 ≡ true = le-leb (suc (length ds)) 38 (ltb-false 38 (suc (length ds)) short) in
            rw (some, all, digit, shape, short, value few) refl
      ]
      | inr none ↦ fraction-bad t (suc (length ds)) n bytes none ∙ rw (none, and-false) refl
    ]

-- digits up to the mark of an offset
pub fraction-mark : (t : Timestamp) (ds : List ℕ) (b n : ℕ) (rest : List ℕ) → all_are is_digit ds ≡ true → is_offset_mark b ≡ true → n ≡ number 10 (map digit_value ds)
    → after_second t (46 ∷ (ds ++ b ∷ rest)) ≡ with_fraction t (length ds) n (b ∷ rest)
unfolding cut_at
fraction-mark t ds b n rest all begins value =
    let here : cut_at is_offset_mark (b ∷ rest) ≡ ([], b ∷ rest) = rw begins refl in
    let cut = mark-cut ds (b ∷ rest) all ∙ ap (λ (c : List ℕ × List ℕ). (ds ++ c.0, c.1)) here ∙ ap (λ xs. (xs, b ∷ rest)) (append-nil ds) in
    ap (λ (c : List ℕ × List ℕ). with_point t (46 ∷ c.0) c.1) cut ∙ sym (point-digits t ds (b ∷ rest) n all (λ _. value))

point-cut : (t : Timestamp) (ds bytes : List ℕ) (n : ℕ) (cut : List ℕ × List ℕ) → all_are is_digit ds ≡ true → (nat_le (length ds) 38 ≡ true → n ≡ number 10 (map digit_value ds))
    → AfterDigits bytes cut → with_fraction t (length ds) n bytes ≡ with_point t (46 ∷ (ds ++ cut.0)) cut.1
point-cut t ds bytes n _ all value mark = rw (append-nil ds) (point-digits t ds bytes n all value)
point-cut t ds bytes n _ all value (other s o no_digits none) =
    let bad : all_are is_digit (ds ++ s) ≡ false = rw (all_are-append is_digit ds s, no_digits) (and-false (all_are is_digit ds)) in
    fraction-bad t (length ds) n bytes none ∙ sym (point-bad t (ds ++ s) o bad)

pub second-fraction : (t : Timestamp) (bytes fraction : List ℕ) (d : Digits) → bytes ≡ 46 ∷ fraction → AreLeading fraction d → with_fraction t d.count d.number d.rest.now ≡ after_second t bytes
unfolding cut_at
second-fraction t bytes fraction d is prefix =
    let parts = cut-parts fraction in
    let ds = (cut_at is_no_digit fraction).0 in
    let rest = (cut_at is_no_digit fraction).1 in
    let value : nat_le (length ds) 38 ≡ true → d.number ≡ number 10 (map digit_value ds) = rw prefix.count at prefix.value in
    let step = point-cut t ds rest d.number (cut_at is_offset_mark rest) parts.0 value (after-digits rest parts.1) in
    let cut = sym (mark-cut ds rest parts.0) ∙ ap (λ xs. cut_at is_offset_mark xs) parts.2 in
    rw (prefix.count, prefix.rest, is) (step ∙ ap (λ (c : List ℕ × List ℕ). with_point t (46 ∷ c.0) c.1) cut)

pub second-offset : (t : Timestamp) (bytes : List ℕ) → (length bytes < 1) ⊎ (get_or bytes 0 0 ≢ 46) → with_offset t bytes ≡ after_second t bytes
unfolding cut_at
second-offset t [] _ = refl
second-offset t (b ∷ bytes) (inl none) = absurd (omega arith)
second-offset t (b ∷ bytes) (inr no_point) =
    elim (cases_Bool (is_offset_mark b)) [
      | inl e ↦ rw e refl
      | inr e ↦ rw (e, shape-mark b bytes e, ne_eqb 46 b (λ p. no_point (sym p))) refl
    ]

pub first-after : (bytes : List ℕ) (b : ℕ) → 1 ≤ length bytes → get_or bytes 0 0 ≡ b → bytes ≡ b ∷ drop 1 bytes
first-after [] b some e = absurd (omega arith)
first-after (x ∷ bytes) b some e = rw e refl
