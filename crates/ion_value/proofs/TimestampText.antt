-- Laws of timestamps in text.
use Rattle.std.proofs.Common.{◌≡◌, ◌⊎◌, ℕ, zero, suc, ◌+◌, ◌*◌, ◌<◌, ◌≤◌, ℤ, Bool, true, false, ◌&&◌, ◌==◌, Option, Some, None, Ok, List, [], ◌∷◌, ◌++◌, length, get_or, inl, inr, refl, sym, ap, ◌∙◌, arith, append_assoc}
use Rattle.std.proofs.lemmas.Bool.{cases_Bool, le-leb, ne_eqb}
use Rattle.std.proofs.lemmas.Int.{ints}
use Rattle.std.proofs.Math.Bool.{and-false}
use Rattle.ion_value.specs.declared.timestamp.Precision.{Precision}
use Rattle.ion_value.specs.declared.timestamp.Precision.TheVariants.{Fraction}
use Rattle.ion_value.specs.declared.timestamp.Timestamp.{Timestamp}
use Rattle.ion_value.specs.declared.timestamp_text.TextOffset.{TextOffset}
use Rattle.ion_value.specs.Digits.{is_digit, fixed_digits}
use Rattle.ion_value.specs.Timestamp.{IsMoment, is_moment, IsOffset, digits_at, has_offset_shape, date_in_range, time_in_range, second_text, offset_text, text_to, timestamp_text}
use Rattle.ion_value.specs.TimestampRuns.{two_digits, offset_of, IsOffsetOf, offset_in_range}
use Rattle.ion_value.proofs.TimestampOctets.{is_moment-is}

-- ---- the text that is written

pub text-to : (t : Timestamp) (p : Precision) (text : List ℕ) → t.precision ≡ p → text ≡ text_to p t → text ≡ timestamp_text t
unfolding timestamp_text
text-to t p text is e = e ∙ sym (ap (λ q. text_to q t) is)

pub text-fraction : (t : Timestamp) (n : ℕ) (second point digits text : List ℕ) → second ≡ second_text t → point ≡ second ++ 46 ∷ [] → digits ≡ point ++ fixed_digits n t.fraction
    → text ≡ digits ++ offset_text t.offset → text ≡ text_to (Fraction n) t
text-fraction t n second point digits text a b c d =
    d ∙ ap (λ xs. xs ++ offset_text t.offset) (c ∙ ap (λ xs. xs ++ fixed_digits n t.fraction) (b ∙ ap (λ xs. xs ++ 46 ∷ []) a))
    ∙ simp append_assoc

-- ---- digits and bytes

pub two_digits-some : (a b n : ℕ) → Some n ≡ two_digits a b → (is_digit a ≡ true) × (is_digit b ≡ true) × (n ≡ digits_at 0 2 (a ∷ b ∷ []))
two_digits-some a b n e =
    elim (cases_Bool (is_digit a)) [
      | inl p ↦ elim (cases_Bool (is_digit b)) [
        | inl q ↦ let f = rw (p, q) at e in (p, q, cc)
        | inr q ↦ let f = rw (p, q) at e in absurd (cc)
      ]
      | inr p ↦ let f = rw p at e in absurd (cc)
    ]

pub two_digits-none : (a b : ℕ) → None ≡ two_digits a b → (is_digit a && is_digit b) ≡ false
two_digits-none a b e =
    elim (cases_Bool (is_digit a && is_digit b)) [
      | inl p ↦ let f = rw p at e in absurd (cc)
      | inr p ↦ p
    ]

-- ---- offsets

pub offset_of-bound : (negative : Bool) (n : ℕ) → n < 1440 → IsOffset (offset_of negative n)
offset_of-bound true zero small = tt
offset_of-bound true (suc n) small =
    let some : (suc n == 0) ≡ false = ne_eqb (suc n) 0 (λ e. absurd (omega arith)) in
    rw some (omega (arith, ints), omega (arith, ints))
offset_of-bound false n small = (omega (arith, ints), omega (arith, ints))

pub at_offset-is : (t : Timestamp) (o : Option ℤ) (offset : TextOffset) (bytes : List ℕ) → IsOffsetOf bytes offset → offset.hours ≤ 23 → offset.minutes ≤ 59
    → o ≡ offset_of offset.negative (60 * offset.hours + offset.minutes) → time_in_range true (record t { offset = o }) ≡ offset_in_range t bytes
at_offset-is t o offset bytes told hours minutes e =
    rw (told.exists, le-leb offset.hours 23 hours, le-leb offset.minutes 59 minutes, told.value, e) refl

pub date_in_range-ok : (t u : Timestamp) → Ok u ≡ date_in_range t → (u ≡ t) × IsMoment t
date_in_range-ok t u e =
    elim (cases_Bool (is_moment t)) [
      | inl p ↦ let f = rw p at e in (cc, is_moment-is t p)
      | inr p ↦ let f = rw p at e in absurd (cc)
    ]

pub offset-some : (bytes : List ℕ) (h m : ℕ) → 6 ≤ length bytes → length bytes < 7 → (get_or bytes 0 0 ≡ 43) ⊎ (get_or bytes 0 0 ≡ 45) → get_or bytes 3 0 ≡ 58
    → Some h ≡ two_digits (get_or bytes 1 0) (get_or bytes 2 0) → Some m ≡ two_digits (get_or bytes 4 0) (get_or bytes 5 0)
    → (has_offset_shape bytes ≡ true) × IsOffsetOf bytes (record { negative = get_or bytes 0 0 == 45; hours = h; minutes = m })
offset-some [] h m some few _ _ _ _ = absurd (omega arith)
offset-some (_ ∷ []) h m some few _ _ _ _ = absurd (omega arith)
offset-some (_ ∷ _ ∷ []) h m some few _ _ _ _ = absurd (omega arith)
offset-some (_ ∷ _ ∷ _ ∷ []) h m some few _ _ _ _ = absurd (omega arith)
offset-some (_ ∷ _ ∷ _ ∷ _ ∷ []) h m some few _ _ _ _ = absurd (omega arith)
offset-some (_ ∷ _ ∷ _ ∷ _ ∷ _ ∷ []) h m some few _ _ _ _ = absurd (omega arith)
offset-some (s ∷ h1 ∷ h2 ∷ colon ∷ m1 ∷ m2 ∷ []) h m some few sign is_colon hours minutes =
    let p = two_digits-some h1 h2 h hours in
    let q = two_digits-some m1 m2 m minutes in
    elim sign [
      | inl plus ↦ rw (plus, is_colon, p.0, p.1, q.0, q.1, p.2, q.2) (refl, record { exists = refl; value = refl })
      | inr minus ↦ rw (minus, is_colon, p.0, p.1, q.0, q.1, p.2, q.2) (refl, record { exists = refl; value = refl })
    ]
offset-some (_ ∷ _ ∷ _ ∷ _ ∷ _ ∷ _ ∷ _ ∷ rest) h m some few _ _ _ _ = absurd (omega arith)

-- two bytes that are not both digits
pub either-false : (x y : Bool) → (x && y) ≡ false → (x ≡ false) ⊎ (y ≡ false)
either-false true y e = inr e
either-false false y e = inl refl

pub offset-none : (bytes : List ℕ) → 6 ≤ length bytes → length bytes < 7
    → (is_digit (get_or bytes 1 0) && is_digit (get_or bytes 2 0) ≡ false) ⊎ (is_digit (get_or bytes 4 0) && is_digit (get_or bytes 5 0) ≡ false) → has_offset_shape bytes ≡ false
offset-none [] some few _ = absurd (omega arith)
offset-none (_ ∷ []) some few _ = absurd (omega arith)
offset-none (_ ∷ _ ∷ []) some few _ = absurd (omega arith)
offset-none (_ ∷ _ ∷ _ ∷ []) some few _ = absurd (omega arith)
offset-none (_ ∷ _ ∷ _ ∷ _ ∷ []) some few _ = absurd (omega arith)
offset-none (_ ∷ _ ∷ _ ∷ _ ∷ _ ∷ []) some few _ = absurd (omega arith)
offset-none (s ∷ h1 ∷ h2 ∷ colon ∷ m1 ∷ m2 ∷ []) some few no_digits =
    elim no_digits [
      | inl hours ↦ elim (either-false (is_digit h1) (is_digit h2) hours) [ inl e ↦ simp (e, and-false) | inr e ↦ simp (e, and-false) ]
      | inr minutes ↦ elim (either-false (is_digit m1) (is_digit m2) minutes) [ inl e ↦ simp (e, and-false) | inr e ↦ simp (e, and-false) ]
    ]
offset-none (_ ∷ _ ∷ _ ∷ _ ∷ _ ∷ _ ∷ _ ∷ rest) some few _ = absurd (omega arith)
