-- Texts that are the same by the bytes at their ends.
use Rattle.std.proofs.Common.{◌≡◌, ℕ, zero, suc, ◌+◌, ◌-◌, ◌<◌, ◌≤◌, nat_eq, Bool, true, false, inl, inr, List, [], ◌∷◌, ◌++◌, length, take, drop, get_or, refl, sym, ap, ap₂, subst, ◌∙◌, arith}
use Rattle.std.specs.Int.{w32, w64, to_le_bytes}
use Rattle.std.specs.Str.{bytes_eq}
use Rattle.std.proofs.lemmas.Bool.{cases_lt, eq-eqb}
use Rattle.std.proofs.lemmas.List.{drop-drop, ext_get_or, take-append-drop}
use Rattle.std.proofs.lemmas.Nat.{le_bytes_4, le_bytes_8}
use Rattle.std.proofs.lemmas.Slice.Eq.{bytes_eq-Decides}
use Rattle.ion_symbols.specs.Hash.{eight_at, four_at, few_of}

abbrev AreSmall : List ℕ → Type 0
AreSmall t = (i : ℕ) → get_or t i 0 < 256

small-nil : AreSmall []
small-nil zero = omega arith
small-nil (suc i) = omega arith

-- ---- eight bytes

abbrev eights : List ℕ → ℕ → List ℕ
eights t a =
    get_or t a 0 ∷ get_or t (a + 1) 0 ∷ get_or t (a + 2) 0 ∷ get_or t (a + 3) 0 ∷ get_or t (a + 4) 0 ∷ get_or t (a + 5) 0 ∷ get_or t (a + 6) 0 ∷ get_or t (a + 7) 0 ∷ []

small-eights : (t : List ℕ) (a : ℕ) → AreSmall t → AreSmall (eights t a)
small-eights t a h zero = h a
small-eights t a h (suc zero) = h (a + 1)
small-eights t a h (suc (suc zero)) = h (a + 2)
small-eights t a h (suc (suc (suc zero))) = h (a + 3)
small-eights t a h (suc (suc (suc (suc zero)))) = h (a + 4)
small-eights t a h (suc (suc (suc (suc (suc zero))))) = h (a + 5)
small-eights t a h (suc (suc (suc (suc (suc (suc zero)))))) = h (a + 6)
small-eights t a h (suc (suc (suc (suc (suc (suc (suc zero))))))) = h (a + 7)
small-eights t a h (suc (suc (suc (suc (suc (suc (suc (suc j)))))))) = small-nil j

in-eights : (t : List ℕ) (a j : ℕ) → j < 8 → get_or (eights t a) j 0 ≡ get_or t (a + j) 0
in-eights t a zero h = let e : a ≡ a + 0 = omega arith in ap (λ i. get_or t i 0) e
in-eights t a (suc zero) h = refl
in-eights t a (suc (suc zero)) h = refl
in-eights t a (suc (suc (suc zero))) h = refl
in-eights t a (suc (suc (suc (suc zero)))) h = refl
in-eights t a (suc (suc (suc (suc (suc zero))))) h = refl
in-eights t a (suc (suc (suc (suc (suc (suc zero)))))) h = refl
in-eights t a (suc (suc (suc (suc (suc (suc (suc zero))))))) h = refl
in-eights t a (suc (suc (suc (suc (suc (suc (suc (suc j)))))))) h = absurd (omega (arith, h))

eights-same : (t o : List ℕ) (a : ℕ) → AreSmall t → AreSmall o → eight_at t a ≡ eight_at o a → (j : ℕ) → j < 8 → get_or t (a + j) 0 ≡ get_or o (a + j) 0
unfolding eight_at
eights-same t o a st so e j h =
    let same : eights t a ≡ eights o a =
    sym (le_bytes_8 (eights t a) (eight_at t a) refl (small-eights t a st) refl) ∙ (ap (to_le_bytes w64) e ∙ le_bytes_8 (eights o a) (eight_at o a) refl (small-eights o a so) refl) in
    sym (in-eights t a j h) ∙ (ap (λ (l : List ℕ). get_or l j 0) same ∙ in-eights o a j h)

-- ---- four bytes

abbrev fours : List ℕ → ℕ → List ℕ
fours t a = get_or t a 0 ∷ get_or t (a + 1) 0 ∷ get_or t (a + 2) 0 ∷ get_or t (a + 3) 0 ∷ []

small-fours : (t : List ℕ) (a : ℕ) → AreSmall t → AreSmall (fours t a)
small-fours t a h zero = h a
small-fours t a h (suc zero) = h (a + 1)
small-fours t a h (suc (suc zero)) = h (a + 2)
small-fours t a h (suc (suc (suc zero))) = h (a + 3)
small-fours t a h (suc (suc (suc (suc j)))) = small-nil j

in-fours : (t : List ℕ) (a j : ℕ) → j < 4 → get_or (fours t a) j 0 ≡ get_or t (a + j) 0
in-fours t a zero h = let e : a ≡ a + 0 = omega arith in ap (λ i. get_or t i 0) e
in-fours t a (suc zero) h = refl
in-fours t a (suc (suc zero)) h = refl
in-fours t a (suc (suc (suc zero))) h = refl
in-fours t a (suc (suc (suc (suc j)))) h = absurd (omega (arith, h))

fours-same : (t o : List ℕ) (a : ℕ) → AreSmall t → AreSmall o → four_at t a ≡ four_at o a → (j : ℕ) → j < 4 → get_or t (a + j) 0 ≡ get_or o (a + j) 0
unfolding four_at
fours-same t o a st so e j h =
    let same : fours t a ≡ fours o a =
    sym (le_bytes_4 (fours t a) (four_at t a) refl (small-fours t a st) refl) ∙ (ap (to_le_bytes w32) e ∙ le_bytes_4 (fours o a) (four_at o a) refl (small-fours o a so) refl) in
    sym (in-fours t a j h) ∙ (ap (λ (l : List ℕ). get_or l j 0) same ∙ in-fours o a j h)

-- ---- whole texts

-- the first k and the last are all of them
by-ends : (t o : List ℕ) (k : ℕ) → length t ≡ length o → k ≤ length t → length t ≤ k + k → ((j : ℕ) → j < k → get_or t (0 + j) 0 ≡ get_or o (0 + j) 0)
    → ((j : ℕ) → j < k → get_or t (length t - k + j) 0 ≡ get_or o (length t - k + j) 0) → t ≡ o
by-ends t o k same least most front back =
    ext_get_or 0 t o same (λ i l. elim (cases_lt i k) [
      | inl less ↦ let e : 0 + i ≡ i = omega arith in subst (λ n. get_or t n 0 ≡ get_or o n 0) e (front i less)
      | inr more ↦
          let e : length t - k + (i - (length t - k)) ≡ i = omega (arith, l, least, most, more) in
          subst (λ n. get_or t n 0 ≡ get_or o n 0) e (back (i - (length t - k)) (omega (arith, l, least, most, more)))
    ])

pub same-eights : (t o : List ℕ) → AreSmall t → AreSmall o → length t ≡ length o → 8 ≤ length t → length t ≤ 16
    → eight_at t 0 ≡ eight_at o 0 → eight_at t (length t - 8) ≡ eight_at o (length t - 8) → t ≡ o
same-eights t o st so same least most front back =
    by-ends t o 8 same least (omega (arith, most)) (eights-same t o 0 st so front) (eights-same t o (length t - 8) st so back)

pub same-fours : (t o : List ℕ) → AreSmall t → AreSmall o → length t ≡ length o → 4 ≤ length t → length t ≤ 8
    → four_at t 0 ≡ four_at o 0 → four_at t (length t - 4) ≡ four_at o (length t - 4) → t ≡ o
same-fours t o st so same least most front back =
    by-ends t o 4 same least (omega (arith, most)) (fours-same t o 0 st so front) (fours-same t o (length t - 4) st so back)

pub same-few : (t o : List ℕ) → AreSmall t → AreSmall o → length t ≡ length o → length t < 4 → few_of t ≡ few_of o → t ≡ o
unfolding few_of
same-few [] [] st so same few e = refl
same-few [] (y ∷ o) st so same few e = absurd (omega (arith, same))
same-few (x ∷ t) [] st so same few e = absurd (omega (arith, same))
same-few (x ∷ []) (y ∷ []) st so same few e = ap (λ b. b ∷ []) (omega (arith, st 0, so 0, e))
same-few (x ∷ []) (y ∷ z ∷ o) st so same few e = absurd (omega (arith, same))
same-few (x ∷ u ∷ t) (y ∷ []) st so same few e = absurd (omega (arith, same))
same-few (x ∷ u ∷ []) (y ∷ v ∷ []) st so same few e =
    let a : x ≡ y = omega (arith, st 0, so 0, st 1, so 1, e) in
    let b : u ≡ v = omega (arith, st 0, so 0, st 1, so 1, e) in
    ap (λ k. k ∷ u ∷ []) a ∙ ap (λ k. y ∷ k ∷ []) b
same-few (x ∷ u ∷ []) (y ∷ v ∷ z ∷ o) st so same few e = absurd (omega (arith, same))
same-few (x ∷ u ∷ w ∷ t) (y ∷ v ∷ []) st so same few e = absurd (omega (arith, same))
same-few (x ∷ u ∷ w ∷ []) (y ∷ v ∷ z ∷ []) st so same few e =
    let a : x ≡ y = omega (arith, st 0, so 0, st 1, so 1, st 2, so 2, e) in
    let b : u ≡ v = omega (arith, st 0, so 0, st 1, so 1, st 2, so 2, e) in
    let c : w ≡ z = omega (arith, st 0, so 0, st 1, so 1, st 2, so 2, e) in
    ap (λ k. k ∷ u ∷ w ∷ []) a ∙ (ap (λ k. y ∷ k ∷ w ∷ []) b ∙ ap (λ k. y ∷ v ∷ k ∷ []) c)
same-few (x ∷ u ∷ w ∷ []) (y ∷ v ∷ z ∷ q ∷ o) st so same few e = absurd (omega (arith, same))
same-few (x ∷ u ∷ w ∷ r ∷ t) o st so same few e = absurd (omega (arith, few))

-- ---- what a test says

pub equal-tells : (a b : ℕ) → a ≡ b → nat_eq a b ≡ true
equal-tells a b e = eq-eqb a b e

pub tells : (t o : List ℕ) (b : Bool) → (b ≡ true → t ≡ o) → (t ≡ o → b ≡ true) → b ≡ bytes_eq t o
tells t o b f g = by b (bytes_eq t o) refl refl
  where
    by : (x y : Bool) → b ≡ x → bytes_eq t o ≡ y → b ≡ bytes_eq t o
    by true y p q = p ∙ sym ((bytes_eq-Decides t o).1 (f p))
    by false true p q = absurd (Prim.cc (sym p ∙ g ((bytes_eq-Decides t o).0 q)))
    by false false p q = p ∙ sym q

-- ---- up to 32 bytes

pub same-sixteens : (t o : List ℕ) → 16 ≤ length t → length t ≤ 32 → take 16 t ≡ take 16 o → drop (length t - 16) t ≡ drop (length t - 16) o → t ≡ o
same-sixteens t o least most front back =
    let n : length t - 16 + (32 - length t) ≡ 16 = omega (arith, least, most) in
    let rest : drop 16 t ≡ drop 16 o =
    ap (λ k. drop k t) (sym n) ∙ (sym (drop-drop (32 - length t) (length t - 16) t) ∙ (ap (drop (32 - length t)) back ∙ (drop-drop (32 - length t) (length t - 16) o ∙ ap (λ k. drop k o) n))) in
    sym (take-append-drop 16 t) ∙ (ap₂ (λ a b. a ++ b) front rest ∙ take-append-drop 16 o)
