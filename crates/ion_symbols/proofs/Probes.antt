-- How often a text is compared in a search by halving.
use Rattle.std.proofs.Common.{◌≡◌, ℕ, zero, suc, ◌+◌, ◌-◌, ◌/◌, ◌<◌, ◌≤◌, List, [], ◌∷◌, length, take, drop, get_or, slice_get, MatchOption, Ordering, Less, Equal, Greater, refl, ap, ap₂, sym, ◌∙◌, arith, get_or-take, get_or-drop}
use Rattle.std.proofs.lemmas.List.{length-take, length-drop, drop-drop, drop-take, take-take}
use Rattle.ion_symbols.specs.Output.{text_cmp, probes_by, probes_within, probes_for}
use Rattle.ion_symbols.proofs.TextOrder.{compared}

-- the number of probes is the same whatever bounds it, where that is not below the number of texts
probes_bound : (m n : ℕ) (ts : List (List ℕ)) (t : List ℕ) → length ts ≤ m → length ts ≤ n → probes_within m ts t ≡ probes_within n ts t
probes_bound zero zero ts t a b = refl
probes_bound zero (suc n) [] t a b = refl
probes_bound zero (suc n) (s ∷ ss) t a b = absurd (omega (arith, a))
probes_bound (suc m) zero [] t a b = refl
probes_bound (suc m) zero (s ∷ ss) t a b = absurd (omega (arith, b))
probes_bound (suc m) (suc n) [] t a b = refl
probes_bound (suc m) (suc n) (s ∷ ss) t a b =
    let half = length (s ∷ ss) / 2 in
    let d = length-drop (half + 1) (s ∷ ss) in
    let k = length-take half (s ∷ ss) in
    ap₂ (λ after before. 1 + probes_by (text_cmp (get_or (s ∷ ss) half []) t) after before)
    (probes_bound m n (drop (half + 1) (s ∷ ss)) t (omega (arith, d, a)) (omega (arith, d, b)))
    (probes_bound m n (take half (s ∷ ss)) t (omega (arith, k, a)) (omega (arith, k, b)))

-- where there is a text, the one in the middle is compared, and then those after it or before it
probes_step : (ts : List (List ℕ)) (t : List ℕ) (half : ℕ) → 0 < length ts → half ≡ length ts / 2 → probes_for ts t ≡ 1 + probes_by (text_cmp (get_or ts half []) t) (probes_for (drop (half + 1) ts) t) (probes_for (take half ts) t)
probes_step [] t half l e = absurd (omega (arith, l))
probes_step (s ∷ ss) t half l e =
    let d = length-drop (half + 1) (s ∷ ss) in
    let k = length-take half (s ∷ ss) in
    rw (← e)
    (ap₂ (λ after before. 1 + probes_by (text_cmp (get_or (s ∷ ss) half []) t) after before)
    (probes_bound (length ss) (length (drop (half + 1) (s ∷ ss))) (drop (half + 1) (s ∷ ss)) t (omega (arith, d, e)) (omega arith))
    (probes_bound (length ss) (length (take half (s ∷ ss))) (take half (s ∷ ss)) t (omega (arith, k, e)) (omega arith)))

-- the texts from one place to another
abbrev pub between : ℕ → ℕ → List (List ℕ) → List (List ℕ)
between low high ts = take (high - low) (drop low ts)

-- how many they are
length_between : (ts : List (List ℕ)) (low high : ℕ) → high ≤ length ts → length (between low high ts) ≡ high - low
length_between ts low high l =
    let k = length-take (high - low) (drop low ts) in
    let d = length-drop low ts in
    omega (arith, k, d, l)

-- those after the middle
after_between : (ts : List (List ℕ)) (low high half : ℕ) → half < high - low → drop (half + 1) (between low high ts) ≡ between (low + half + 1) high ts
after_between ts low high half l =
    let n : high - low ≡ (half + 1) + (high - (low + half + 1)) = omega (arith, l) in
    ap (λ n. drop (half + 1) (take n (drop low ts))) n
    ∙ (drop-take (half + 1) (high - (low + half + 1)) (drop low ts)
    ∙ ap (take (high - (low + half + 1))) (drop-drop (half + 1) low ts ∙ ap (λ n. drop n ts) (omega arith)))

-- those before it
before_between : (ts : List (List ℕ)) (low high half : ℕ) → half < high - low → take half (between low high ts) ≡ between low (low + half) ts
before_between ts low high half l =
    take-take half (high - low) (drop low ts) (omega (arith, l)) ∙ ap (λ n. take n (drop low ts)) (omega arith)

-- and the one in the middle
middle_between : (ts : List (List ℕ)) (low high half : ℕ) → half < high - low → get_or (between low high ts) half [] ≡ get_or ts (low + half) []
middle_between ts low high half l = get_or-take (high - low) (drop low ts) half [] l ∙ get_or-drop low ts half []

-- the probes among them, by the order of the text in the middle
between_step : (ts us : List (List ℕ)) (low high half : ℕ) (t : List ℕ) (r : Ordering) → ts ≡ us → low < high → high ≤ length us → half ≡ (high - low) / 2 → MatchOption (slice_get ts (low + half)) ⊥ (λ s. r ≡ text_cmp s t) → probes_for (between low high us) t ≡ 1 + probes_by r (probes_for (between (low + half + 1) high us) t) (probes_for (between low (low + half) us) t)
between_step ts us low high half t r e l h a m =
    let n = length_between us low high h in
    let i : half < high - low = omega (arith, a, l) in
    let o : r ≡ text_cmp (get_or us (low + half) []) t = compared ts (low + half) t r m [] ∙ ap (λ ts. text_cmp (get_or ts (low + half) []) t) e in
    let s = probes_step (between low high us) t half (omega (arith, n, l)) (omega (arith, n, a)) in
    s
    ∙ (ap (λ m. 1 + probes_by (text_cmp m t) (probes_for (drop (half + 1) (between low high us)) t) (probes_for (take half (between low high us)) t)) (middle_between us low high half i)
    ∙ (ap (λ r. 1 + probes_by r (probes_for (drop (half + 1) (between low high us)) t) (probes_for (take half (between low high us)) t)) (sym o)
    ∙ ap₂ (λ xs ys. 1 + probes_by r (probes_for xs t) (probes_for ys t)) (after_between us low high half i) (before_between us low high half i)))

-- where a comparison with the one in the middle answers less, those after it are left
pub probes_less : (ts us : List (List ℕ)) (low high : ℕ) (t : List ℕ) → ts ≡ us → low < high → high ≤ length us → MatchOption (slice_get ts (low + (high - low) / 2)) ⊥ (λ s. Less ≡ text_cmp s t) → probes_for (between low high us) t ≡ 1 + probes_for (between (low + (high - low) / 2 + 1) high us) t
probes_less ts us low high t e l h m = between_step ts us low high ((high - low) / 2) t Less e l h refl m

-- where it answers greater, those before it
pub probes_greater : (ts us : List (List ℕ)) (low high : ℕ) (t : List ℕ) → ts ≡ us → low < high → high ≤ length us → MatchOption (slice_get ts (low + (high - low) / 2)) ⊥ (λ s. Greater ≡ text_cmp s t) → probes_for (between low high us) t ≡ 1 + probes_for (between low (low + (high - low) / 2) us) t
probes_greater ts us low high t e l h m = between_step ts us low high ((high - low) / 2) t Greater e l h refl m

-- and where it answers equal, none
pub probes_equal : (ts us : List (List ℕ)) (low high : ℕ) (t : List ℕ) → ts ≡ us → low < high → high ≤ length us → MatchOption (slice_get ts (low + (high - low) / 2)) ⊥ (λ s. Equal ≡ text_cmp s t) → probes_for (between low high us) t ≡ 1
probes_equal ts us low high t e l h m = between_step ts us low high ((high - low) / 2) t Equal e l h refl m
