-- The order of texts by their bytes, and what it says of ids.
use Rattle.std.proofs.Common.{◌≡◌, ℕ, zero, suc, ◌+◌, ◌<◌, ◌≤◌, nat_eq, Bool, true, false, if◌then◌else◌, List, [], ◌∷◌, ◌++◌, length, take, drop, map, get_or, slice_get, All, Option, Some, None, option_map, Less, Greater, refl, ap, ap₂, sym, subst, ◌∙◌, arith, below_more}
use Rattle.std.specs.List.{insert}
use Rattle.std.proofs.lemmas.List.{length-map, map-append, take-map, drop-map, get_or_append_left, get_or_push, length_push}
use Rattle.std.proofs.lemmas.List.Edits.{length-insert}
use Rattle.std.proofs.lemmas.List.Elements.{All-tail, All-weaker}
use Rattle.std.proofs.lemmas.Option.{slice_get-map, slice_get_within, get_or_from_slice_get, slice_get-get_or}
use Rattle.std.proofs.lemmas.Slice.Eq.{bytes_eq-Decides}
use Rattle.std.specs.Str.{bytes_eq}
use Rattle.std.specs.Cmp.Lexicographic.{pointwise}
use Rattle.std.proofs.lemmas.Cmp.{nat_list_eq_equiv}
use Rattle.ion_symbols.specs.Output.{text_cmp, Ascend, Belongs, Has, IsSorted, position}
use Rattle.ion_symbols.specs.Ordered.{in_order, Orders}
use Rattle.ion_symbols.proofs.TextOrder.{not_less, not_greater, one_place, one_order, all_insert, ascend_insert}

-- ---- the texts in order are the texts

-- where the order has the id of a text, the texts in order have the text
pub order_has : (texts : List (List ℕ)) (order : List ℕ) (t : List ℕ) (i k : ℕ) → slice_get texts i ≡ Some t → slice_get order k ≡ Some i → slice_get (in_order texts order) k ≡ Some t
order_has texts order t i k h e =
    slice_get-map (λ i. get_or texts i []) order k ∙ (ap (option_map (λ i. get_or texts i [])) e ∙ ap Some (get_or_from_slice_get texts i t [] h))

-- what stands at a place of the order is the text of the id there
pub has_order : (texts : List (List ℕ)) (order : List ℕ) (t : List ℕ) (k : ℕ) → Orders texts order → slice_get (in_order texts order) k ≡ Some t → slice_get texts (get_or order k 0) ≡ Some t
has_order texts order t k h e =
    let in' : k < length order = simp length-map at (slice_get_within (in_order texts order) k t e) in
    let at' : slice_get order k ≡ Some (get_or order k 0) = slice_get-get_or order k 0 in' in
    let there : slice_get texts (get_or order k 0) ≡ Some (get_or texts (get_or order k 0) []) = slice_get-get_or texts (get_or order k 0) [] (h.each k 0 in') in
    let is : slice_get (in_order texts order) k ≡ Some (get_or texts (get_or order k 0) [])
    = slice_get-map (λ i. get_or texts i []) order k ∙ ap (option_map (λ i. get_or texts i [])) at' in
    there ∙ (sym is ∙ e)

-- an order gives the texts in order
pub orders_sorted : (texts : List (List ℕ)) (order : List ℕ) → Orders texts order → IsSorted (in_order texts order) texts
orders_sorted texts order h = record {
  ascend = h.ascend;
  long = simp length-map h.long;
  all = λ t has. let k = h.whole has.0 (slice_get_within texts has.0 t has.1) in (k.0, order_has texts order t has.0 k.0 has.1 k.1);
  no_other = λ t has. (get_or order has.0 0, has_order texts order t has.0 h has.1);
}

-- there is one way to put texts in order
pub one_sorted : (texts xs ys : List (List ℕ)) → IsSorted xs texts → IsSorted ys texts → xs ≡ ys
one_sorted texts xs ys a b = one_order xs ys a.ascend b.ascend (λ t has. b.all t (a.no_other t has)) (λ t has. a.all t (b.no_other t has))

-- ---- a text more

-- texts that are added after change nothing in the order
more_order : (texts more : List (List ℕ)) (order : List ℕ) → All (λ i. i < length texts) order → in_order (texts ++ more) order ≡ in_order texts order
more_order texts more [] h = refl
more_order texts more (i ∷ is) h =
    ap₂ (λ x xs. x ∷ xs) (get_or_append_left texts more [] i (h 0 0 (omega arith))) (more_order texts more is (All-tail (λ i. i < length texts) i is h))

-- the id of a new text put into the order puts the text there
put_order : (texts : List (List ℕ)) (order : List ℕ) (t : List ℕ) (place : ℕ) → All (λ i. i < length texts) order → in_order (texts ++ t ∷ []) (insert order place (length texts)) ≡ take place (in_order texts order) ++ t ∷ drop place (in_order texts order)
put_order texts order t place h =
    let f = λ (i : ℕ). get_or (texts ++ t ∷ []) i [] in
    let s : in_order (texts ++ t ∷ []) order ≡ in_order texts order = more_order texts (t ∷ []) order h in
    let n : f (length texts) ≡ t = get_or_push texts t [] (length texts) refl in
    let a : map f (take place order) ≡ take place (in_order texts order) = sym (take-map f place order) ∙ ap (take place) s in
    let b : map f (drop place order) ≡ drop place (in_order texts order) = sym (drop-map f place order) ∙ ap (drop place) s in
    map-append f (take place order) (length texts ∷ drop place order) ∙ ap₂ (λ xs ys. xs ++ ys) a (ap₂ (λ x xs. x ∷ xs) n b)

-- what stood in a list stands in it with one more
has_insert : (xs : List ℕ) (p y x k : ℕ) → slice_get xs k ≡ Some x → (j : ℕ) × (slice_get (insert xs p y) j ≡ Some x)
has_insert xs zero y x k h = (suc k, h)
has_insert [] (suc p) y x k h = absurd (cc)
has_insert (z ∷ zs) (suc p) y x zero h = (0, h)
has_insert (z ∷ zs) (suc p) y x (suc k) h = let r = has_insert zs p y x k h in (suc r.0, r.1)

-- and so does that one
has_new : (xs : List ℕ) (p y : ℕ) → (j : ℕ) × (slice_get (insert xs p y) j ≡ Some y)
has_new xs zero y = (0, refl)
has_new [] (suc p) y = (0, refl)
has_new (z ∷ zs) (suc p) y = let r = has_new zs p y in (suc r.0, r.1)

-- a text that is put where it belongs keeps the order
pub orders_push : (texts : List (List ℕ)) (order : List ℕ) (t : List ℕ) (place : ℕ) → Orders texts order → Belongs (in_order texts order) t place → Orders (texts ++ t ∷ []) (insert order place (length texts))
orders_push texts order t place h b =
    let n : length (texts ++ t ∷ []) ≡ length texts + 1 = length_push texts t in
    let in' : place ≤ length order = simp length-map at b.within in
    record {
      each = all_insert (λ i. i < length (texts ++ t ∷ [])) order place (length texts) (All-weaker (λ i. i < length texts) (λ i. i < length (texts ++ t ∷ [])) (λ i l. omega (arith, l, n)) order h.each) (omega (arith, n));
      whole = λ i l. below_more (λ i. (k : ℕ) × (slice_get (insert order place (length texts)) k ≡ Some i)) (length texts)
          (λ i l. let w = h.whole i l in has_insert order place (length texts) i w.0 w.1) (has_new order place (length texts)) i (omega (arith, l, n));
      ascend = subst Ascend (sym (put_order texts order t place h.each)) (ascend_insert (in_order texts order) t place h.ascend b.before b.after);
      long = let l = length-insert order place (length texts) in' in omega (arith, l, n, h.long);
    }

-- ---- ids

-- two values in a Some are the same where both Somes are
some_same : {A : Type 0} (x y : A) → Some x ≡ Some y → x ≡ y
some_same x y h = cc

-- where the text at a position among the others is the one sought, so it is after one more
position_by : (s : List ℕ) (ss : List (List ℕ)) (t : List ℕ) (b : Bool) (p : Option ℕ) → bytes_eq s t ≡ b → ((j : ℕ) → p ≡ Some j → slice_get ss j ≡ Some t) → (j : ℕ) → (if b then Some 0 else option_map (λ place. place + 1) p) ≡ Some j → slice_get (s ∷ ss) j ≡ Some t
position_by s ss t true p e r zero h = ap Some ((bytes_eq-Decides s t).0 e)
position_by s ss t true p e r (suc j) h = absurd (omega (arith, some_same 0 (suc j) h))
position_by s ss t false (Some q) e r j h = let n : suc q ≡ j = omega (arith, some_same (q + 1) j h) in subst (λ i. slice_get (s ∷ ss) i ≡ Some t) n (r q refl)
position_by s ss t false None e r j h = absurd (cc)

-- a text stands at its position
pub position_has : (texts : List (List ℕ)) (t : List ℕ) (j : ℕ) → position texts t ≡ Some j → slice_get texts j ≡ Some t
position_has [] t j h = absurd (cc)
position_has (s ∷ ss) t j h = position_by s ss t (bytes_eq s t) (position ss t) refl (λ j. position_has ss t j) j h

-- a position among the others gives one after one more
position_first : (b : Bool) (p : Option ℕ) → (j : ℕ) × (p ≡ Some j) → (j : ℕ) × ((if b then Some 0 else option_map (λ place. place + 1) p) ≡ Some j)
position_first true p r = (0, refl)
position_first false p r = (r.0 + 1, ap (option_map (λ place. place + 1)) r.1)

-- and so does a first text that is the one sought
position_true : (b : Bool) (p : Option ℕ) → b ≡ true → (j : ℕ) × ((if b then Some 0 else option_map (λ place. place + 1) p) ≡ Some j)
position_true true p e = (0, refl)
position_true false p e = absurd (cc)

-- a text that stands among others has a position
pub has_position : (texts : List (List ℕ)) (t : List ℕ) (k : ℕ) → slice_get texts k ≡ Some t → (j : ℕ) × (position texts t ≡ Some j)
has_position [] t k h = absurd (cc)
has_position (s ∷ ss) t zero h = position_true (bytes_eq s t) (position ss t) ((bytes_eq-Decides s t).1 (some_same s t h))
has_position (s ∷ ss) t (suc k) h = position_first (bytes_eq s t) (position ss t) (has_position ss t k h)

-- a text found in the order has the position that the order gives there
pub found_position : (texts : List (List ℕ)) (order : List ℕ) (t : List ℕ) (k : ℕ) → Orders texts order → slice_get (in_order texts order) k ≡ Some t → position texts t ≡ Some (get_or order k 0)
found_position texts order t k h e =
    let p = has_position texts t (get_or order k 0) (has_order texts order t k h e) in
    let at' : slice_get texts p.0 ≡ Some t = position_has texts t p.0 p.1 in
    let w = h.whole p.0 (slice_get_within texts p.0 t at') in
    let same : w.0 ≡ k = one_place (in_order texts order) t w.0 k h.ascend (order_has texts order t p.0 w.0 at' w.1) e in
    let is : get_or order k 0 ≡ p.0 = ap (λ k. get_or order k 0) (sym same) ∙ get_or_from_slice_get order w.0 p.0 0 w.1 in
    p.1 ∙ ap Some (sym is)

-- what has no value is None
none_if : (o : Option ℕ) → ((j : ℕ) → o ≡ Some j → ⊥) → o ≡ None
none_if None h = refl
none_if (Some j) h = absurd (h j refl)

-- a text that is greater than those before a place and less than those from it on is none of them
neither : (ts : List (List ℕ)) (t : List ℕ) (place k : ℕ) → All (λ s. text_cmp s t ≡ Less) (take place ts) → All (λ s. text_cmp s t ≡ Greater) (drop place ts) → slice_get ts k ≡ Some t → ⊥
neither [] t place k a b h = absurd (cc)
neither (s ∷ ss) t zero k a b h =
    not_greater t (subst (λ u. text_cmp u t ≡ Greater) (get_or_from_slice_get (s ∷ ss) k t t h) (b k t (slice_get_within (s ∷ ss) k t h)))
neither (s ∷ ss) t (suc place) zero a b h = not_less t (subst (λ u. text_cmp u t ≡ Less) (some_same s t h) (a 0 t (omega arith)))
neither (s ∷ ss) t (suc place) (suc k) a b h = neither ss t place k (All-tail (λ u. text_cmp u t ≡ Less) s (take place ss) a) b h

-- a text that belongs among the texts in order is none of them
pub belongs_no : (ts : List (List ℕ)) (t : List ℕ) (place : ℕ) → Belongs ts t place → Has ts t → ⊥
belongs_no ts t place b has = neither ts t place has.0 b.before b.after has.1

-- and has no position
pub belongs_none : (texts : List (List ℕ)) (order : List ℕ) (t : List ℕ) (place : ℕ) → Orders texts order → Belongs (in_order texts order) t place → position texts t ≡ None
belongs_none texts order t place h b =
    none_if (position texts t) (λ j e. belongs_no (in_order texts order) t place b ((orders_sorted texts order h).all t (j, position_has texts t j e)))

-- with another first text there is no position where there was none
position_without : (b : Bool) (p : Option ℕ) → b ≡ false → p ≡ None → (if b then Some 0 else option_map (λ place. place + 1) p) ≡ None
position_without b p e h = rw (e, h) refl

-- a text that differs from the first, and has no position among the others, has none
pub position_past : (s : List ℕ) (ss : List (List ℕ)) (t u : List ℕ) (r : Bool) → r ≡ pointwise nat_eq t u → u ≡ s → r ≡ false → position ss t ≡ None → position (s ∷ ss) t ≡ None
position_past s ss t u r a b e h =
    let f : bytes_eq t s ≡ false = ap (bytes_eq t) (sym b) ∙ (sym a ∙ e) in
    position_without (bytes_eq s t) (position ss t) (nat_list_eq_equiv.symm s t ∙ f) h

-- a text that stands at a place has that as its position
pub there_position : (texts : List (List ℕ)) (order : List ℕ) (t : List ℕ) (i : ℕ) → Orders texts order → i < length texts → get_or texts i [] ≡ t → position texts t ≡ Some i
there_position texts order t i h l e =
    let there : slice_get texts i ≡ Some t = slice_get-get_or texts i [] l ∙ ap Some e in
    let w = h.whole i l in
    found_position texts order t w.0 h (order_has texts order t i w.0 there w.1) ∙ ap Some (get_or_from_slice_get order w.0 i 0 w.1)

-- a text that stands at no place has no position
pub absent_position : (texts : List (List ℕ)) (t : List ℕ) → ((i : ℕ) → i < length texts → get_or texts i [] ≡ t → ⊥) → position texts t ≡ None
absent_position texts t h =
    none_if (position texts t) (λ j e. let s = position_has texts t j e in h j (slice_get_within texts j t s) (get_or_from_slice_get texts j t [] s))
