-- The position of a text among others that are all different.
use Rattle.std.proofs.Common.{◌≡◌, ℕ, ◌+◌, ◌<◌, Bool, true, false, List, [], ◌∷◌, ◌++◌, length, get_or, slice_get, Some, None, refl, ap, sym, subst, ◌∙◌, below_more}
use Rattle.std.proofs.lemmas.Bool.{true≢false}
use Rattle.std.proofs.lemmas.List.{get_or_append_left, get_or_push}
use Rattle.std.proofs.lemmas.Option.{slice_get_within, get_or_from_slice_get, slice_get-get_or}
use Rattle.std.proofs.lemmas.Slice.Eq.{bytes_eq-Decides}
use Rattle.std.specs.Str.{bytes_eq}
use Rattle.ion_symbols.specs.Output.{position}
use Rattle.ion_symbols.proofs.Orders.{has_position, position_has}

-- a text that stands at a place has that as its position
pub position_there : (texts : List (List ℕ)) (t : List ℕ) (i : ℕ) → ((j k : ℕ) → j < length texts → k < length texts → get_or texts j [] ≡ get_or texts k [] → j ≡ k)
    → i < length texts → get_or texts i [] ≡ t → position texts t ≡ Some i
position_there texts t i apart l e =
    let p = has_position texts t i (slice_get-get_or texts i [] l ∙ ap Some e) in
    let at' : slice_get texts p.0 ≡ Some t = position_has texts t p.0 p.1 in
    let same : p.0 ≡ i = apart p.0 i (slice_get_within texts p.0 t at') l (get_or_from_slice_get texts p.0 t [] at' ∙ sym e) in
    p.1 ∙ ap Some same

-- a text without a position stands nowhere
pub position_absent : (texts : List (List ℕ)) (t : List ℕ) → position texts t ≡ None → (i : ℕ) → i < length texts → get_or texts i [] ≡ t → ⊥
position_absent texts t none i l e =
    let p = has_position texts t i (slice_get-get_or texts i [] l ∙ ap Some e) in
    let some : position texts t ≡ Some p.0 = p.1 in
    cc (none, some)

-- a text that is compared
pub compared_same : (u t s : List ℕ) (same : Bool) → u ≡ s → same ≡ bytes_eq u t → same ≡ true → s ≡ t
compared_same u t s same e b y = sym e ∙ (bytes_eq-Decides u t).0 (sym b ∙ y)

-- and is another
pub compared_other : (u t s : List ℕ) (same : Bool) → u ≡ s → same ≡ bytes_eq u t → same ≡ false → s ≡ t → ⊥
compared_other u t s same e b n f = true≢false (sym ((bytes_eq-Decides u t).1 (e ∙ f)) ∙ (sym b ∙ n))

-- with one more that is none of them all are different
pub apart_push : (texts : List (List ℕ)) (t : List ℕ) (n : ℕ) → length texts ≡ n → ((j k : ℕ) → j < n → k < n → get_or texts j [] ≡ get_or texts k [] → j ≡ k)
    → ((i : ℕ) → i < n → get_or texts i [] ≡ t → ⊥) → (i j : ℕ) → i < n + 1 → j < n + 1 → get_or (texts ++ t ∷ []) i [] ≡ get_or (texts ++ t ∷ []) j [] → i ≡ j
apart_push texts t n e apart none i j a b =
    below_more (λ i. get_or (texts ++ t ∷ []) i [] ≡ get_or (texts ++ t ∷ []) j [] → i ≡ j) n
    (λ i l. below_more (λ j. get_or (texts ++ t ∷ []) i [] ≡ get_or (texts ++ t ∷ []) j [] → i ≡ j) n
    (λ j m f. apart i j l m (sym (old i l) ∙ (f ∙ old j m))) (λ f. absurd (none i l (sym (old i l) ∙ (f ∙ new)))) j b)
    (below_more (λ j. get_or (texts ++ t ∷ []) n [] ≡ get_or (texts ++ t ∷ []) j [] → n ≡ j) n
    (λ j m f. absurd (none j m (sym (old j m) ∙ (sym f ∙ new)))) (λ f. refl) j b)
    i a
  where
    old : (i : ℕ) → i < n → get_or (texts ++ t ∷ []) i [] ≡ get_or texts i []
    old i l = get_or_append_left texts (t ∷ []) [] i (subst (λ m. i < m) (sym e) l)

    new : get_or (texts ++ t ∷ []) n [] ≡ t
    new = get_or_push texts t [] n e
