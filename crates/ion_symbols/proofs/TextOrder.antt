-- Texts in order of their bytes.
use Rattle.std.proofs.Common.{◌≡◌, ℕ, zero, suc, ◌+◌, ◌<◌, List, [], ◌∷◌, ◌++◌, length, take, drop, get_or, slice_get, All, MatchOption, Some, None, Ordering, Less, Equal, Greater, is_eq, refl, ap, sym, subst, ◌∙◌, arith, below_more, get_or-take, get_or-drop}
use Rattle.std.specs.Ordering.{ordering_reverse}
use Rattle.std.proofs.lemmas.Cmp.{nat_list_cmp_total, tied_itself}
use Rattle.std.proofs.lemmas.Map.Text.{is_eq-slice_cmp}
use Rattle.std.proofs.lemmas.Slice.Eq.{bytes_eq-Decides}
use Rattle.std.proofs.lemmas.List.{get_or_default, length-take, length-drop}
use Rattle.std.proofs.lemmas.List.Elements.{All-cons, All-tail, All-append, All-take, All-drop}
use Rattle.std.proofs.lemmas.Option.{get_or_from_slice_get, slice_get_within}
use Rattle.ion_symbols.specs.Output.{text_cmp, Ascend, Has}

-- where one text is less than another, that one is greater
pub less_greater : (s t : List ℕ) → text_cmp s t ≡ Less → text_cmp t s ≡ Greater
less_greater s t h = nat_list_cmp_total.antisymm t s ∙ ap ordering_reverse h

-- and the other way round
pub greater_less : (s t : List ℕ) → text_cmp s t ≡ Greater → text_cmp t s ≡ Less
greater_less s t h = nat_list_cmp_total.antisymm t s ∙ ap ordering_reverse h

-- a text compares equal to itself
pub equal_itself : (t : List ℕ) → text_cmp t t ≡ Equal
equal_itself t = tied_itself nat_list_cmp_total t

-- texts that compare equal are the same
pub equal_same : (s t : List ℕ) → text_cmp s t ≡ Equal → s ≡ t
equal_same s t h = (bytes_eq-Decides s t).0 (sym (is_eq-slice_cmp s t) ∙ ap is_eq h)

-- a text is not less than itself
pub not_less : (t : List ℕ) → text_cmp t t ≡ Less → ⊥
not_less t h = let e : text_cmp t t ≡ Equal = equal_itself t in cc

-- nor greater
pub not_greater : (t : List ℕ) → text_cmp t t ≡ Greater → ⊥
not_greater t h = let e : text_cmp t t ≡ Equal = equal_itself t in cc

-- of two texts that ascend the first is less
pub ascend_less : (ts : List (List ℕ)) (i j : ℕ) (d e : List ℕ) → Ascend ts → i < j → j < length ts → text_cmp (get_or ts i d) (get_or ts j e) ≡ Less
ascend_less [] i j d e h a b = absurd (omega (arith, b))
ascend_less (t ∷ ts) zero zero d e h a b = absurd (omega (arith, a))
ascend_less (t ∷ ts) zero (suc j) d e h a b = h.0 j e (omega (arith, b))
ascend_less (t ∷ ts) (suc i) zero d e h a b = absurd (omega (arith, a))
ascend_less (t ∷ ts) (suc i) (suc j) d e h a b = ascend_less ts i j d e h.1 (omega (arith, a)) (omega (arith, b))

-- where one is less than a text, so is each up to it
pub less_upto : (ts : List (List ℕ)) (m : ℕ) (d t : List ℕ) → Ascend ts → m < length ts → text_cmp (get_or ts m d) t ≡ Less → All (λ s. text_cmp s t ≡ Less) (take (m + 1) ts)
less_upto ts m d t h a b k e l =
    let lt : k < m + 1 = omega (arith, simp length-take at l) in
    subst (λ s. text_cmp s t ≡ Less) (sym (get_or-take (m + 1) ts k e lt))
    (below_more (λ i. text_cmp (get_or ts i e) t ≡ Less) m
    (λ i lt. nat_list_cmp_total.trans (get_or ts i e) (get_or ts m d) t (ascend_less ts i m e d h lt a) b)
    (subst (λ s. text_cmp s t ≡ Less) (get_or_default ts m d e a) b) k lt)

-- where one is greater than a text, so is the one k places on
greater_at : (ts : List (List ℕ)) (m : ℕ) (d t : List ℕ) → Ascend ts → text_cmp (get_or ts m d) t ≡ Greater → (k : ℕ) (e : List ℕ) → m + k < length ts → text_cmp (get_or ts (m + k) e) t ≡ Greater
greater_at ts m d t h b zero e a =
    let same : get_or ts m d ≡ get_or ts (m + 0) e = get_or_default ts m d e (omega (arith, a)) ∙ ap (λ i. get_or ts i e) (omega arith) in
    subst (λ s. text_cmp s t ≡ Greater) same b
greater_at ts m d t h b (suc k) e a =
    less_greater t (get_or ts (m + suc k) e)
    (nat_list_cmp_total.trans t (get_or ts m d) (get_or ts (m + suc k) e) (greater_less (get_or ts m d) t b) (ascend_less ts m (m + suc k) d e h (omega arith) a))

-- where one is greater than a text, so is each from it on
pub greater_from : (ts : List (List ℕ)) (m : ℕ) (d t : List ℕ) → Ascend ts → text_cmp (get_or ts m d) t ≡ Greater → All (λ s. text_cmp s t ≡ Greater) (drop m ts)
greater_from ts m d t h b k e l =
    subst (λ s. text_cmp s t ≡ Greater) (sym (get_or-drop m ts k e)) (greater_at ts m d t h b k e (omega (arith, simp length-drop at l)))

-- what is less than each of a list is less than one of them
less_of : (s : List ℕ) (ss : List (List ℕ)) (t : List ℕ) (j : ℕ) → All (λ u. text_cmp s u ≡ Less) ss → slice_get ss j ≡ Some t → text_cmp s t ≡ Less
less_of s ss t j h b = subst (λ u. text_cmp s u ≡ Less) (get_or_from_slice_get ss j t t b) (h j t (slice_get_within ss j t b))

-- so it is none of them
twice : (s : List ℕ) (ss : List (List ℕ)) (t : List ℕ) (j : ℕ) → All (λ u. text_cmp s u ≡ Less) ss → Some s ≡ Some t → slice_get ss j ≡ Some t → ⊥
twice s ss t j h a b = let e : s ≡ t = cc in not_less t (subst (λ u. text_cmp u t ≡ Less) e (less_of s ss t j h b))

-- a text that ascends among others stands at one place
pub one_place : (ts : List (List ℕ)) (t : List ℕ) (i j : ℕ) → Ascend ts → slice_get ts i ≡ Some t → slice_get ts j ≡ Some t → i ≡ j
one_place [] t i j h a b = absurd (cc)
one_place (s ∷ ss) t zero zero h a b = refl
one_place (s ∷ ss) t zero (suc j) h a b = absurd (twice s ss t j h.0 a b)
one_place (s ∷ ss) t (suc i) zero h a b = absurd (twice s ss t i h.0 b a)
one_place (s ∷ ss) t (suc i) (suc j) h a b = ap suc (one_place ss t i j h.1 a b)

-- what holds of a text and of each of a list holds of each of the list with the text in it
pub all_insert : {X : Type 0} (P : X → Type 0) (xs : List X) (p : ℕ) (x : X) → All P xs → P x → All P (take p xs ++ x ∷ drop p xs)
all_insert P xs p x h a = All-append P (take p xs) (x ∷ drop p xs) (All-take P p xs h) (All-cons P x (drop p xs) a (All-drop P p xs h))

-- a text put where it belongs ascends with the others
pub ascend_insert : (ts : List (List ℕ)) (t : List ℕ) (p : ℕ) → Ascend ts → All (λ s. text_cmp s t ≡ Less) (take p ts) → All (λ s. text_cmp s t ≡ Greater) (drop p ts) → Ascend (take p ts ++ t ∷ drop p ts)
ascend_insert ts t zero h a b = ((λ k d l. greater_less (get_or ts k d) t (b k d l)), h)
ascend_insert [] t (suc p) h a b = ((λ k d l. absurd (omega (arith, l))), tt)
ascend_insert (s ∷ ss) t (suc p) h a b =
    (all_insert (λ u. text_cmp s u ≡ Less) ss p t h.0 (a 0 [] (omega arith)), ascend_insert ss t p h.1 (All-tail (λ u. text_cmp u t ≡ Less) s (take p ss) a) b)

-- no text stands in the empty list
no_text : {G : Type 0} (t : List ℕ) → Has [] t → G
no_text t has = let e : None ≡ Some t = has.1 in absurd (cc)

-- where each of two first texts stands in the other's list, and both ascend, they are the same
first_same : (x : List ℕ) (xs : List (List ℕ)) (y : List ℕ) (ys : List (List ℕ)) → All (λ u. text_cmp x u ≡ Less) xs → All (λ u. text_cmp y u ≡ Less) ys → (i : ℕ) → slice_get (y ∷ ys) i ≡ Some x → (j : ℕ) → slice_get (x ∷ xs) j ≡ Some y → x ≡ y
first_same x xs y ys h k zero p j q = cc
first_same x xs y ys h k (suc i) p zero q = cc
first_same x xs y ys h k (suc i) p (suc j) q = absurd (not_less x (nat_list_cmp_total.trans x y x (less_of x xs y j h q) (less_of y ys x i k p)))

-- and a text after the first stands after the other's first
tail_has : (x : List ℕ) (xs : List (List ℕ)) (y : List ℕ) (ys : List (List ℕ)) (t : List ℕ) → All (λ u. text_cmp x u ≡ Less) xs → x ≡ y → (j : ℕ) → slice_get xs j ≡ Some t → (i : ℕ) → slice_get (y ∷ ys) i ≡ Some t → Has ys t
tail_has x xs y ys t h e j p zero q = let f : Some x ≡ Some t = cc in absurd (twice x xs t j h f p)
tail_has x xs y ys t h e j p (suc i) q = (i, q)

-- two lists of the same texts that both ascend are the same
pub one_order : (xs ys : List (List ℕ)) → Ascend xs → Ascend ys → ((t : List ℕ) → Has xs t → Has ys t) → ((t : List ℕ) → Has ys t → Has xs t) → xs ≡ ys
one_order [] [] h k f g = refl
one_order [] (y ∷ ys) h k f g = no_text y (g y (0, refl))
one_order (x ∷ xs) [] h k f g = no_text x (f x (0, refl))
one_order (x ∷ xs) (y ∷ ys) h k f g =
    let a : Has (y ∷ ys) x = f x (0, refl) in
    let b : Has (x ∷ xs) y = g y (0, refl) in
    let e : x ≡ y = first_same x xs y ys h.0 k.0 a.0 a.1 b.0 b.1 in
    let r : xs ≡ ys = one_order xs ys h.1 k.1
    (λ t has. let there = f t (suc has.0, has.1) in tail_has x xs y ys t h.0 e has.0 has.1 there.0 there.1)
    (λ t has. let there = g t (suc has.0, has.1) in tail_has y ys x xs t k.0 (sym e) has.0 has.1 there.0 there.1) in
    cc

-- a comparison that was made at a place is one of the text there
pub compared : (ts : List (List ℕ)) (i : ℕ) (t : List ℕ) (r : Ordering) → MatchOption (slice_get ts i) ⊥ (λ s. r ≡ text_cmp s t) → (d : List ℕ) → r ≡ text_cmp (get_or ts i d) t
compared [] i t r h d = absurd h
compared (s ∷ ss) zero t r h d = h
compared (s ∷ ss) (suc i) t r h d = compared ss i t r h d

-- what holds of the text at a place holds where it is read
pub at_place : (P : List ℕ → Type 0) (ts : List (List ℕ)) (i : ℕ) → i < length ts → P (get_or ts i []) → MatchOption (slice_get ts i) ⊥ P
at_place P [] i l h = absurd (omega (arith, l))
at_place P (s ∷ ss) zero l h = h
at_place P (s ∷ ss) (suc i) l h = at_place P ss i (omega (arith, l)) h

-- where a comparison answers less, so are the texts up to it
pub answers_less : (ts us : List (List ℕ)) (i : ℕ) (t : List ℕ) → ts ≡ us → Ascend ts → i < length us → MatchOption (slice_get ts i) ⊥ (λ s. Less ≡ text_cmp s t) → All (λ s. text_cmp s t ≡ Less) (take (i + 1) us)
answers_less ts us i t e h l m =
    less_upto us i [] t (subst Ascend e h) l (subst (λ ts. text_cmp (get_or ts i []) t ≡ Less) e (sym (compared ts i t Less m [])))

-- where it answers greater, so are those from it on
pub answers_greater : (ts us : List (List ℕ)) (i : ℕ) (t : List ℕ) → ts ≡ us → Ascend ts → MatchOption (slice_get ts i) ⊥ (λ s. Greater ≡ text_cmp s t) → All (λ s. text_cmp s t ≡ Greater) (drop i us)
answers_greater ts us i t e h m =
    greater_from us i [] t (subst Ascend e h) (subst (λ ts. text_cmp (get_or ts i []) t ≡ Greater) e (sym (compared ts i t Greater m [])))

-- and where it answers equal, that is the text
pub answers_equal : (ts us : List (List ℕ)) (i : ℕ) (t : List ℕ) → ts ≡ us → MatchOption (slice_get ts i) ⊥ (λ s. Equal ≡ text_cmp s t) → slice_get us i ≡ Some t
answers_equal ts us i t e m = subst (λ ts. slice_get ts i ≡ Some t) e (equal_at ts i t m)
  where
    equal_at : (ts : List (List ℕ)) (i : ℕ) (t : List ℕ) → MatchOption (slice_get ts i) ⊥ (λ s. Equal ≡ text_cmp s t) → slice_get ts i ≡ Some t
    equal_at [] i t m = absurd m
    equal_at (s ∷ ss) zero t m = ap Some (equal_same s t (sym m))
    equal_at (s ∷ ss) (suc i) t m = equal_at ss i t m
