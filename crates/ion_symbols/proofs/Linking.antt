-- Texts that are linked to one another.
use Rattle.std.proofs.Common.{◌≡◌, ◌⊎◌, inl, inr, ℕ, zero, suc, ◌+◌, ◌/◌, ◌%◌, ◌<◌, ◌≤◌, ◌==◌, if◌then◌else◌, List, [], ◌∷◌, ◌++◌, length, get_or, set, refl, ap, ap₂, sym, subst, subst₂, ◌∙◌, arith, below_more}
use Rattle.std.proofs.lemmas.Bool.{cases_eq}
use Rattle.std.proofs.lemmas.List.{get_or_append_left, get_or_push, get_or-set_same, get_or-set_other, length_push}
use Rattle.ion_symbols.specs.Hash.{hash_of, bucket_in, digits_in}
use Rattle.ion_symbols.specs.OutTexts.{link_of, IsReached, AreLinked, Extend}

-- ---- one link

-- where the last digit is 0 it is the first
pub link_even : (first second : List ℕ) (i digits : ℕ) → digits % 2 ≡ 0 → link_of first second i digits ≡ get_or first i 0
unfolding link_of
link_even first second i digits e = ap (λ (n : ℕ). if n == 0 then get_or first i 0 else get_or second i 0) e

-- and where it is 1 the second
pub link_odd : (first second : List ℕ) (i digits : ℕ) → digits % 2 ≡ 1 → link_of first second i digits ≡ get_or second i 0
unfolding link_of
link_odd first second i digits e = ap (λ (n : ℕ). if n == 0 then get_or first i 0 else get_or second i 0) e

-- the last digit
digit_cases : (digits : ℕ) → (digits % 2 ≡ 0) ⊎ (digits % 2 ≡ 1)
digit_cases digits = elim (cases_eq (digits % 2) 0) as (λ _. (digits % 2 ≡ 0) ⊎ (digits % 2 ≡ 1)) [
  | inl y ↦ inl y
  | inr y ↦ inr (omega (arith, y))
]

-- ---- a text that is reached

-- from a text, and over one at least
pub reached_some : (first second : List ℕ) (most digits at i : ℕ) → IsReached first second most digits at i → (0 < most) × (0 < at)
unfolding IsReached
reached_some first second zero digits at i h = absurd h
reached_some first second (suc most) digits zero i h = absurd h
reached_some first second (suc most) digits (suc k) i h = (omega arith, omega arith)

-- it is the first one, or is reached from where that one links
pub reached_cases : (first second : List ℕ) (most m digits at k i : ℕ) → most ≡ suc m → at ≡ suc k → IsReached first second most digits at i
    → (k ≡ i) ⊎ IsReached first second m (digits / 2) (link_of first second k digits) i
unfolding IsReached
reached_cases first second most m digits at k i p q h = subst₂ (λ n a. IsReached first second n digits a i) p q h

-- and the other way round
pub reached_from : (first second : List ℕ) (most m digits at k i : ℕ) → most ≡ suc m → at ≡ suc k
    → (k ≡ i) ⊎ IsReached first second m (digits / 2) (link_of first second k digits) i → IsReached first second most digits at i
unfolding IsReached
reached_from first second most m digits at k i p q h = subst₂ (λ n a. IsReached first second n digits a i) (sym p) (sym q) h

-- a step by links that extend others
extend_step : (first second first2 second2 : List ℕ) (most digits k i : ℕ) → Extend first second first2 second2
    → ((at : ℕ) → IsReached first second most (digits / 2) at i → IsReached first2 second2 most (digits / 2) at i)
    → (k ≡ i) ⊎ IsReached first second most (digits / 2) (link_of first second k digits) i → IsReached first2 second2 (suc most) digits (suc k) i
extend_step first second first2 second2 most digits k i e rest (inl y) = reached_from first2 second2 (suc most) most digits (suc k) k i refl refl (inl y)
extend_step first second first2 second2 most digits k i e rest (inr y) =
    let some = reached_some first second most (digits / 2) (link_of first second k digits) i y in
    let same : link_of first2 second2 k digits ≡ link_of first second k digits = e.kept k digits some.1 in
    reached_from first2 second2 (suc most) most digits (suc k) k i refl refl
    (inr (subst (λ a. IsReached first2 second2 most (digits / 2) a i) (sym same) (rest (link_of first second k digits) y)))

-- what is reached is reached by links that extend these
pub extend_reached : (first second first2 second2 : List ℕ) → Extend first second first2 second2 → (most digits at i : ℕ) → IsReached first second most digits at i
    → IsReached first2 second2 most digits at i
extend_reached first second first2 second2 e zero digits at i h = absurd (omega (arith, (reached_some first second zero digits at i h).0))
extend_reached first second first2 second2 e (suc most) digits zero i h = absurd (omega (arith, (reached_some first second (suc most) digits zero i h).1))
extend_reached first second first2 second2 e (suc most) digits (suc k) i h =
    extend_step first second first2 second2 most digits k i e (λ at r. extend_reached first second first2 second2 e most (digits / 2) at i r)
    (reached_cases first second (suc most) most digits (suc k) k i refl refl h)

-- ---- links that extend others

-- one step after another
pub extend_then : (first second first2 second2 first3 second3 : List ℕ) → Extend first second first2 second2 → Extend first2 second2 first3 second3 → Extend first second first3 second3
extend_then first second first2 second2 first3 second3 a b = record {
  kept = λ i digits p.
      let e : link_of first2 second2 i digits ≡ link_of first second i digits = a.kept i digits p in
      b.kept i digits (subst (λ n. 0 < n) (sym e) p) ∙ e;
}

-- past the end all are 0
pub get_or_zero : (xs : List ℕ) (i : ℕ) → get_or (xs ++ 0 ∷ []) i 0 ≡ get_or xs i 0
get_or_zero [] zero = refl
get_or_zero [] (suc i) = refl
get_or_zero (x ∷ xs) zero = refl
get_or_zero (x ∷ xs) (suc i) = get_or_zero xs i

-- so is that of a text that was put after the others
pub link_zero : (first second : List ℕ) (i digits : ℕ) → link_of (first ++ 0 ∷ []) (second ++ 0 ∷ []) i digits ≡ link_of first second i digits
unfolding link_of
link_zero first second i digits = ap₂ (λ (x y : ℕ). if digits % 2 == 0 then x else y) (get_or_zero first i) (get_or_zero second i)

-- and nothing changed for the others
pub extend_zero : (first second : List ℕ) → Extend first second (first ++ 0 ∷ []) (second ++ 0 ∷ [])
extend_zero first second = record { kept = λ i digits p. link_zero first second i digits }

-- where one is set each is what it was, or that one
pub set_cases : (xs : List ℕ) (k n i : ℕ) → k < length xs → (get_or (set xs k n) i 0 ≡ get_or xs i 0) ⊎ (get_or (set xs k n) i 0 ≡ n)
set_cases xs k n i l = elim (cases_eq i k) as (λ _. (get_or (set xs k n) i 0 ≡ get_or xs i 0) ⊎ (get_or (set xs k n) i 0 ≡ n)) [
  | inl y ↦ inr (ap (λ j. get_or (set xs k n) j 0) y ∙ get_or-set_same xs k n 0 l)
  | inr y ↦ inl (get_or-set_other xs k i n 0 y)
]

-- where it was 0 the others stay
set_other : (xs : List ℕ) (k n i : ℕ) → get_or xs k 0 ≡ 0 → 0 < get_or xs i 0 → get_or (set xs k n) i 0 ≡ get_or xs i 0
set_other xs k n i z p = elim (cases_eq i k) as (λ _. get_or (set xs k n) i 0 ≡ get_or xs i 0) [
  | inl y ↦ let e : get_or xs i 0 ≡ get_or xs k 0 = ap (λ j. get_or xs j 0) y in absurd (omega (arith, e, z, p))
  | inr y ↦ get_or-set_other xs k i n 0 y
]

-- the first link of a text is set
pub extend_first : (first second : List ℕ) (k digits n : ℕ) → digits % 2 ≡ 0 → link_of first second k digits ≡ 0 → Extend first second (set first k n) second
extend_first first second k digits n e z = record {
  kept = λ i d p. elim (digit_cases d) as (λ _. link_of (set first k n) second i d ≡ link_of first second i d) [
    | inl y ↦
        link_even (set first k n) second i d y
        ∙ (set_other first k n i (sym (link_even first second k digits e) ∙ z) (subst (λ m. 0 < m) (link_even first second i d y) p) ∙ sym (link_even first second i d y))
    | inr y ↦ link_odd (set first k n) second i d y ∙ sym (link_odd first second i d y)
  ];
}

-- or the second
pub extend_second : (first second : List ℕ) (k digits n : ℕ) → digits % 2 ≡ 1 → link_of first second k digits ≡ 0 → Extend first second first (set second k n)
extend_second first second k digits n e z = record {
  kept = λ i d p. elim (digit_cases d) as (λ _. link_of first (set second k n) i d ≡ link_of first second i d) [
    | inl y ↦ link_even first (set second k n) i d y ∙ sym (link_even first second i d y)
    | inr y ↦
        link_odd first (set second k n) i d y
        ∙ (set_other second k n i (sym (link_odd first second k digits e) ∙ z) (subst (λ m. 0 < m) (link_odd first second i d y) p) ∙ sym (link_odd first second i d y))
  ];
}

-- ---- all of them

-- no texts, and no links
pub linked_none : (buckets : List ℕ) → AreLinked [] [] [] buckets
linked_none buckets = record { first_within = λ i. omega arith; second_within = λ i. omega arith; reached = λ i l. absurd (omega (arith, l)) }

-- a bucket that is empty has no text
pub bucket_taken : (texts : List (List ℕ)) (first second buckets : List ℕ) (i : ℕ) → AreLinked texts first second buckets → i < length texts
    → 0 < get_or buckets (bucket_in (hash_of (get_or texts i []))) 0
bucket_taken texts first second buckets i h l =
    (reached_some first second 32 (digits_in (hash_of (get_or texts i []))) (get_or buckets (bucket_in (hash_of (get_or texts i []))) 0) i (h.reached i l)).1

-- a text is come to from the first of its bucket
abbrev Comes : List ℕ → List ℕ → List ℕ → List ℕ → ℕ → Type 0
Comes first second buckets t i = IsReached first second 32 (digits_in (hash_of t)) (get_or buckets (bucket_in (hash_of t)) 0) i

-- a text more, which is reached by links that extend the others
pub linked_more : (texts : List (List ℕ)) (t : List ℕ) (first second first2 second2 buckets buckets2 : List ℕ) → AreLinked texts first second buckets → Extend first second first2 second2
    → ((i : ℕ) → get_or first2 i 0 ≤ length texts + 1) → ((i : ℕ) → get_or second2 i 0 ≤ length texts + 1)
    → ((i : ℕ) → i < length texts → get_or buckets2 (bucket_in (hash_of (get_or texts i []))) 0 ≡ get_or buckets (bucket_in (hash_of (get_or texts i []))) 0)
    → IsReached first2 second2 32 (digits_in (hash_of t)) (get_or buckets2 (bucket_in (hash_of t)) 0) (length texts) → AreLinked (texts ++ t ∷ []) first2 second2 buckets2
linked_more texts t first second first2 second2 buckets buckets2 h x v w same last = record {
  first_within = λ i. subst (λ n. get_or first2 i 0 ≤ n) (sym (length_push texts t)) (v i);
  second_within = λ i. subst (λ n. get_or second2 i 0 ≤ n) (sym (length_push texts t)) (w i);
  reached = λ i m. below_more (λ i. Comes first2 second2 buckets2 (get_or (texts ++ t ∷ []) i []) i) (length texts)
      (λ i l. subst (λ u. Comes first2 second2 buckets2 u i) (sym (get_or_append_left texts (t ∷ []) [] i l)) (there i l))
      (subst (λ u. Comes first2 second2 buckets2 u (length texts)) (sym (get_or_push texts t [] (length texts) refl)) last) i (omega (arith, m, length_push texts t));
}
  where
    there : (i : ℕ) → i < length texts → Comes first2 second2 buckets2 (get_or texts i []) i
    there i l =
        subst (λ a. IsReached first2 second2 32 (digits_in (hash_of (get_or texts i []))) a i) (sym (same i l))
        (extend_reached first second first2 second2 x 32 (digits_in (hash_of (get_or texts i []))) (get_or buckets (bucket_in (hash_of (get_or texts i []))) 0) i (h.reached i l))
