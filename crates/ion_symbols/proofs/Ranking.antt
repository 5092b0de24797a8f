-- Shared tables in order of name and version, and what is found there.
use Rattle.std.proofs.Common.{◌≡◌, ◌⊎◌, inl, inr, ℕ, zero, suc, ◌+◌, ◌-◌, ◌<◌, ◌≤◌, Bool, true, false, ◌&&◌, ◌==◌, if◌then◌else◌, nat_lt, nat_le, is_none, List, [], ◌∷◌, ◌++◌, length, take, drop, get_or, slice_get, All, MatchOption, Option, Some, None, option_map, Ordering, Less, Equal, Greater, refl, ap, sym, subst, subst₂, ◌∙◌, arith, add-one, get_or-drop, get_or-take}
use Rattle.std.specs.Prelude.{⊤}
use Rattle.std.specs.Str.{bytes_eq}
use Rattle.std.specs.List.{insert}
use Rattle.std.specs.Ordering.{ordering_then, nat_cmp}
use Rattle.std.proofs.lemmas.Bool.{true≢false, eqb-true, eq-eqb, ne_eqb, leb-true, lt-ltb, le-ltb, and_parts}
use Rattle.std.proofs.lemmas.Bool.Decides.{eqb_tells, leb_tells}
use Rattle.std.proofs.lemmas.Cmp.{nat_list_cmp_total, ranked}
use Rattle.std.proofs.lemmas.Slice.Eq.{bytes_eq-Decides}
use Rattle.std.proofs.lemmas.List.{length-map, map-append, get_or-map, length-drop, length-take}
use Rattle.std.proofs.lemmas.List.Elements.{All-append, All-cons, All-nil}
use Rattle.std.proofs.lemmas.Option.{slice_get-map, slice_get_within, get_or_from_slice_get, slice_get-get_or}
use Rattle.ion_symbols.specs.Table.{Shared, is_table, find, greater, greatest, greatest_from, may_stand, is_name}
use Rattle.ion_symbols.specs.Catalogue.{Points, WhyNotAdded}
use Rattle.ion_meter.specs.Entries.{Entries}
use Rattle.ion_meter.specs.Counts.{Counts, IsRefused}
use Rattle.ion_meter.specs.declared.fault.Fault.{Fault}
use Rattle.ion_meter.specs.declared.fault.Fault.TheVariants.{Memory}
use Rattle.ion_symbols.specs.CatalogItems.{blank}
use Rattle.ion_symbols.specs.UserValues.{SlotsAreText, CatalogIsText}
use Rattle.ion_symbols.specs.Output.{text_cmp, Belongs, position}
use Rattle.ion_symbols.specs.Ordered.{in_order, Orders}
use Rattle.ion_symbols.specs.Ranks.{key_of, key, keys, IsRanked}
use Rattle.ion_symbols.proofs.TextOrder.{equal_itself, equal_same, not_less, ascend_less, less_upto, greater_from}
use Rattle.ion_symbols.proofs.AllAppended.{AllByRecursion-append}
use Rattle.ion_symbols.proofs.Orders.{order_has, orders_push, found_position, belongs_none}

-- ---- keys are in order as names and versions are

then_equal : (o : Ordering) → ordering_then o Equal ≡ o
then_equal Less = refl
then_equal Equal = refl
then_equal Greater = refl

then_assoc : (o p q : Ordering) → ordering_then o (ordering_then p q) ≡ ordering_then (ordering_then o p) q
then_assoc Less p q = refl
then_assoc Equal p q = refl
then_assoc Greater p q = refl

-- numbers that are in order
cmp_less : (v w : ℕ) (r : Ordering) → r ≡ nat_cmp v w → v < w → r ≡ Less
cmp_less v w Less e h = refl
cmp_less v w Equal e h = let f : v ≡ w = ranked v w Equal e in absurd (omega (arith, f, h))
cmp_less v w Greater e h = let f : w < v = ranked v w Greater e in absurd (omega (arith, f, h))

cmp_greater : (v w : ℕ) (r : Ordering) → r ≡ nat_cmp v w → w < v → r ≡ Greater
cmp_greater v w Less e h = let f : v < w = ranked v w Less e in absurd (omega (arith, f, h))
cmp_greater v w Equal e h = let f : v ≡ w = ranked v w Equal e in absurd (omega (arith, f, h))
cmp_greater v w Greater e h = refl

cmp_equal : (v w : ℕ) (r : Ordering) → r ≡ nat_cmp v w → v ≡ w → r ≡ Equal
cmp_equal v w Less e h = let f : v < w = ranked v w Less e in absurd (omega (arith, f, h))
cmp_equal v w Equal e h = refl
cmp_equal v w Greater e h = let f : w < v = ranked v w Greater e in absurd (omega (arith, f, h))

-- each one more, they are in the same order
cmp_more : (v w : ℕ) (r : Ordering) → r ≡ nat_cmp v w → nat_cmp (suc v) (suc w) ≡ r
cmp_more v w Less e = let f : v < w = ranked v w Less e in cmp_less (suc v) (suc w) (nat_cmp (suc v) (suc w)) refl (omega (arith, f))
cmp_more v w Equal e = let f : v ≡ w = ranked v w Equal e in cmp_equal (suc v) (suc w) (nat_cmp (suc v) (suc w)) refl (omega (arith, f))
cmp_more v w Greater e = let f : w < v = ranked v w Greater e in cmp_greater (suc v) (suc w) (nat_cmp (suc v) (suc w)) refl (omega (arith, f))

-- and the same where they were
eqb_more : (v w : ℕ) → (suc v == suc w) ≡ (v == w)
eqb_more v w = elim (eqb_tells v w) as (λ _. (suc v == suc w) ≡ (v == w)) [
  | inl x ↦ eq-eqb (suc v) (suc w) (ap suc x.1) ∙ sym x.0
  | inr x ↦ ne_eqb (suc v) (suc w) (λ e. x.1 (omega (arith, e))) ∙ sym x.0
]

-- the order of two keys
pub key_cmp : (n m : List ℕ) (v w : ℕ) → text_cmp (key_of n v) (key_of m w) ≡ ordering_then (text_cmp n m) (nat_cmp v w)
key_cmp [] [] v w = then_equal (nat_cmp v w)
key_cmp [] (b ∷ bs) v w = ap (λ o. ordering_then o (text_cmp (v ∷ []) (key_of bs w))) (cmp_less 0 (suc b) (nat_cmp 0 (suc b)) refl (omega arith))
key_cmp (a ∷ as') [] v w = ap (λ o. ordering_then o (text_cmp (key_of as' v) (w ∷ []))) (cmp_greater (suc a) 0 (nat_cmp (suc a) 0) refl (omega arith))
key_cmp (a ∷ as') (b ∷ bs) v w =
    ap (λ o. ordering_then o (text_cmp (key_of as' v) (key_of bs w))) (cmp_more a b (nat_cmp a b) refl)
    ∙ (ap (ordering_then (nat_cmp a b)) (key_cmp as' bs v w) ∙ then_assoc (nat_cmp a b) (text_cmp as' bs) (nat_cmp v w))

-- of two keys by the names and the versions: the names decide
pub key_less : (n m : List ℕ) (v w : ℕ) → Less ≡ text_cmp n m → Less ≡ text_cmp (key_of n v) (key_of m w)
key_less n m v w e = ap (λ o. ordering_then o (nat_cmp v w)) e ∙ sym (key_cmp n m v w)

pub key_greater : (n m : List ℕ) (v w : ℕ) → Greater ≡ text_cmp n m → Greater ≡ text_cmp (key_of n v) (key_of m w)
key_greater n m v w e = ap (λ o. ordering_then o (nat_cmp v w)) e ∙ sym (key_cmp n m v w)

-- or else the versions
pub key_equal : (n m : List ℕ) (v u w : ℕ) (r : Ordering) → Equal ≡ text_cmp n m → u ≡ v → r ≡ nat_cmp u w → r ≡ text_cmp (key_of n v) (key_of m w)
key_equal n m v u w r e f g = g ∙ (ap (λ x. nat_cmp x w) f ∙ (ap (λ o. ordering_then o (nat_cmp v w)) e ∙ sym (key_cmp n m v w)))

and_true : (b : Bool) → (b && true) ≡ b
and_true true = refl
and_true false = refl

and_assoc : (a b c : Bool) → (a && (b && c)) ≡ ((a && b) && c)
and_assoc true b c = refl
and_assoc false b c = refl

-- whether two keys are the same
key_eq : (n m : List ℕ) (v w : ℕ) → bytes_eq (key_of n v) (key_of m w) ≡ (bytes_eq n m && (v == w))
key_eq [] [] v w = and_true (v == w)
key_eq [] (b ∷ bs) v w = ap (λ x. x && bytes_eq (v ∷ []) (key_of bs w)) (ne_eqb 0 (suc b) (λ e. omega (arith, e)))
key_eq (a ∷ as') [] v w = ap (λ x. x && bytes_eq (key_of as' v) (w ∷ [])) (ne_eqb (suc a) 0 (λ e. omega (arith, e)))
key_eq (a ∷ as') (b ∷ bs) v w =
    ap (λ x. x && bytes_eq (key_of as' v) (key_of bs w)) (eqb_more a b)
    ∙ (ap (λ r. (a == b) && r) (key_eq as' bs v w) ∙ and_assoc (a == b) (bytes_eq as' bs) (v == w))

-- ---- the table that is looked for

-- of the first table and the others
by_first : (s : Shared) (ss : List Shared) (b c : Bool) (f : Option Shared) (p : Option ℕ) → b ≡ c → Points ss f p → Points (s ∷ ss) (if c then Some s else f) (if b then Some 0 else option_map (λ place. place + 1) p)
by_first s ss true true f p e h = refl
by_first s ss true false f p e h = absurd (true≢false e)
by_first s ss false true f p e h = absurd (true≢false (sym e))
by_first s ss false false None None e h = tt
by_first s ss false false None (Some place) e h = absurd h
by_first s ss false false (Some t) None e h = absurd h
by_first s ss false false (Some t) (Some place) e h = subst (λ n. slice_get (s ∷ ss) n ≡ Some t) (sym (add-one place)) h

-- its place is the position of its key
position_points : (tables : List Shared) (name : List ℕ) (version : ℕ) → Points tables (find tables name version) (position (keys tables) (key_of name version))
position_points [] name version = tt
position_points (s ∷ ss) name version =
    by_first s ss (bytes_eq (key s) (key_of name version)) (is_table name version s) (find ss name version) (position (keys ss) (key_of name version))
    (key_eq s.name name s.version version) (position_points ss name version)

-- where its key was found
pub rank_points : (tables : List Shared) (order : List ℕ) (name : List ℕ) (version rank : ℕ) → Orders (keys tables) order → slice_get (in_order (keys tables) order) rank ≡ Some (key_of name version)
    → Points tables (find tables name version) (Some (get_or order rank 0))
rank_points tables order name version rank h e =
    subst (Points tables (find tables name version)) (found_position (keys tables) order (key_of name version) rank h e) (position_points tables name version)

-- and where it was not
pub no_rank_points : (tables : List Shared) (order : List ℕ) (name : List ℕ) (version rank : ℕ) → Orders (keys tables) order → Belongs (in_order (keys tables) order) (key_of name version) rank
    → Points tables (find tables name version) None
no_rank_points tables order name version rank h b =
    subst (Points tables (find tables name version)) (belongs_none (keys tables) order (key_of name version) rank h b) (position_points tables name version)

-- ---- the search by halving

-- what an order has at a rank is the place of a table
pub place_in : (tables : List Shared) (order : List ℕ) (rank : ℕ) → Orders (keys tables) order → rank < length order → get_or order rank 0 < length tables
place_in tables order rank h l = simp length-map at (h.each rank 0 l)

-- what was found stands in the order
pub rank_there : (tables : List Shared) (order : List ℕ) (k : List ℕ) (rank : ℕ) → slice_get (in_order (keys tables) order) rank ≡ Some k → rank < length order
rank_there tables order k rank e = simp length-map at (slice_get_within (in_order (keys tables) order) rank k e)

-- where a key belongs is no further than the order's end
pub rank_upto : (tables : List Shared) (order order2 : List ℕ) (k : List ℕ) (rank : ℕ) → order2 ≡ order → Belongs (in_order (keys tables) order2) k rank → rank ≤ length order
rank_upto tables order order2 k rank e b = let n : rank ≤ length order2 = simp length-map at b.within in omega (arith, n, ap length e)

-- the key at a rank is that table's
key_at : (tables : List Shared) (order : List ℕ) (rank : ℕ) (d : Shared) → Orders (keys tables) order → rank < length order → get_or (in_order (keys tables) order) rank [] ≡ key (get_or tables (get_or order rank 0) d)
key_at tables order rank d h l =
    get_or-map (λ i. get_or (keys tables) i []) order rank 0 [] l ∙ get_or-map key tables (get_or order rank 0) d [] (place_in tables order rank h l)

-- how that key compares
compared_at : (tables : List Shared) (order : List ℕ) (k : List ℕ) (rank : ℕ) (s : Shared) (r : Ordering) → Orders (keys tables) order → rank < length order → s ≡ get_or tables (get_or order rank 0) s → r ≡ text_cmp (key s) k
    → text_cmp (get_or (in_order (keys tables) order) rank []) k ≡ r
compared_at tables order k rank s r h l is e = ap (λ t. text_cmp t k) (key_at tables order rank s h l ∙ ap key (sym is)) ∙ sym e

-- a rank within the order is one of the keys in order
rank_in : (tables : List Shared) (order : List ℕ) (rank : ℕ) → rank < length order → rank < length (in_order (keys tables) order)
rank_in tables order rank l = simp length-map l

-- where it is less, so are those up to it
pub ranked_less : (tables : List Shared) (order : List ℕ) (k : List ℕ) (rank : ℕ) (s : Shared) → Orders (keys tables) order → rank < length order → s ≡ get_or tables (get_or order rank 0) s → Less ≡ text_cmp (key s) k
    → All (λ t. text_cmp t k ≡ Less) (take (rank + 1) (in_order (keys tables) order))
ranked_less tables order k rank s h l is e = less_upto (in_order (keys tables) order) rank [] k h.ascend (rank_in tables order rank l) (compared_at tables order k rank s Less h l is e)

-- where it is greater, so are those from it on
pub ranked_greater : (tables : List Shared) (order : List ℕ) (k : List ℕ) (rank : ℕ) (s : Shared) → Orders (keys tables) order → rank < length order → s ≡ get_or tables (get_or order rank 0) s → Greater ≡ text_cmp (key s) k
    → All (λ t. text_cmp t k ≡ Greater) (drop rank (in_order (keys tables) order))
ranked_greater tables order k rank s h l is e = greater_from (in_order (keys tables) order) rank [] k h.ascend (compared_at tables order k rank s Greater h l is e)

-- and where it is equal, it is the one
pub ranked_equal : (tables : List Shared) (order : List ℕ) (k : List ℕ) (rank : ℕ) (s : Shared) → Orders (keys tables) order → rank < length order → s ≡ get_or tables (get_or order rank 0) s → Equal ≡ text_cmp (key s) k
    → slice_get (in_order (keys tables) order) rank ≡ Some k
ranked_equal tables order k rank s h l is e =
    slice_get-get_or (in_order (keys tables) order) rank [] (rank_in tables order rank l)
    ∙ ap Some (equal_same (get_or (in_order (keys tables) order) rank []) k (compared_at tables order k rank s Equal h l is e))

-- ---- the greatest version of a name

-- keys of one name are in order as their versions are
same_name : (n m : List ℕ) (v w : ℕ) → n ≡ m → text_cmp (key_of n v) (key_of m w) ≡ nat_cmp v w
same_name n m v w e = key_cmp n m v w ∙ ap (λ o. ordering_then o (nat_cmp v w)) (ap (text_cmp n) (sym e) ∙ equal_itself n)

-- what is less by two parts is less or equal by the first
then_less : (o p : Ordering) → ordering_then o p ≡ Less → (o ≡ Less) ⊎ (o ≡ Equal)
then_less Less p e = inl refl
then_less Equal p e = inr refl
then_less Greater p e = absurd (cc)

-- so the names of keys in order are in order, or the same
names_less : (n m : List ℕ) (v w : ℕ) → text_cmp (key_of n v) (key_of m w) ≡ Less → (text_cmp n m ≡ Less) ⊎ (n ≡ m)
names_less n m v w e = elim (then_less (text_cmp n m) (nat_cmp v w) (sym (key_cmp n m v w) ∙ e)) as (λ _. (text_cmp n m ≡ Less) ⊎ (n ≡ m)) [
  | inl x ↦ inl x
  | inr x ↦ inr (equal_same n m x)
]

-- what is found beside a table, which has the greatest version of its name
abbrev Others : List Shared → List ℕ → Shared → ℕ → Type 0
Others ss name s i = (j : ℕ) (t : Shared) → slice_get ss j ≡ Some t → bytes_eq t.name name ≡ true → (j ≡ i) ⊎ (t.version < s.version)

-- the best so far is less
abbrev Lesser : Shared → Option Shared → Type 0
Lesser s best = MatchOption best ⊤ (λ b. b.version < s.version)

some_same : {T : Type 0} (x y : T) → Some x ≡ Some y → x ≡ y
some_same x y h = cc

-- one of another name changes nothing
other_name : (name : List ℕ) (t : Shared) (best : Option Shared) → bytes_eq t.name name ≡ false → greater name best t ≡ best
other_name name t None n = rw n refl
other_name name t (Some b) n = rw n refl

-- nor does a lesser one
lesser_version : (name : List ℕ) (s t : Shared) (b : Bool) → bytes_eq t.name name ≡ b → (b ≡ true → t.version < s.version) → greater name (Some s) t ≡ Some s
lesser_version name s t true n h = let m : nat_lt s.version t.version ≡ false = le-ltb s.version t.version (omega (arith, h refl)) in rw (n, m) refl
lesser_version name s t false n h = other_name name t (Some s) n

-- so it stays the best
stays : (name : List ℕ) (s : Shared) (ss : List Shared) → ((j : ℕ) (t : Shared) → slice_get ss j ≡ Some t → bytes_eq t.name name ≡ true → t.version < s.version) → greatest_from name (Some s) ss ≡ Some s
stays name s [] h = refl
stays name s (t ∷ ts) h =
    ap (λ best. greatest_from name best ts) (lesser_version name s t (bytes_eq t.name name) refl (λ n. h 0 t refl n)) ∙ stays name s ts (λ j u e n. h (suc j) u e n)

-- it takes the place of a lesser one
takes : (name : List ℕ) (s : Shared) (best : Option Shared) → Lesser s best → bytes_eq s.name name ≡ true → greater name best s ≡ Some s
takes name s None l n = rw n refl
takes name s (Some b) l n = let m : nat_lt b.version s.version ≡ true = lt-ltb b.version s.version l in rw (n, m) refl

-- of two lesser ones each is
picked : (s b t : Shared) (x : Bool) → b.version < s.version → t.version < s.version → Lesser s (if x then Some t else Some b)
picked s b t true k l = l
picked s b t false k l = k

-- the best of those that are less is less
still_lesser : (name : List ℕ) (s t : Shared) (best : Option Shared) (b : Bool) → bytes_eq t.name name ≡ b → Lesser s best → (b ≡ true → t.version < s.version) → Lesser s (greater name best t)
still_lesser name s t best false n l h = subst (Lesser s) (sym (other_name name t best n)) l
still_lesser name s t None true n l h = rw n (h refl)
still_lesser name s t (Some b) true n l h = rw n (picked s b t (nat_lt b.version t.version) l (h refl))

greatest_is : (name : List ℕ) (s : Shared) (ss : List Shared) (i : ℕ) (best : Option Shared) → Lesser s best → slice_get ss i ≡ Some s → bytes_eq s.name name ≡ true → Others ss name s i → greatest_from name best ss ≡ Some s
greatest_is name s [] i best l e n o = absurd (cc)
greatest_is name s (t ∷ ts) zero best l e n o =
    let is : t ≡ s = some_same t s e in
    ap (λ u. greatest_from name (greater name best u) ts) is
    ∙ (ap (λ best. greatest_from name best ts) (takes name s best l n)
    ∙ stays name s ts (λ j u f m. elim (o (suc j) u f m) as (λ _. u.version < s.version) [ inl x ↦ absurd (omega (arith, x)) | inr x ↦ x ]))
greatest_is name s (t ∷ ts) (suc i) best l e n o =
    greatest_is name s ts i (greater name best t)
    (still_lesser name s t best (bytes_eq t.name name) refl l (λ m. elim (o 0 t refl m) as (λ _. t.version < s.version) [ inl x ↦ absurd (omega (arith, x)) | inr x ↦ x ]))
    e n (λ j u f m. elim (o (suc j) u f m) as (λ _. (j ≡ i) ⊎ (u.version < s.version)) [ inl x ↦ inl (omega (arith, x)) | inr x ↦ inr x ])

-- a test that can't be true is false
never : (b : Bool) → (b ≡ true → ⊥) → b ≡ false
never true h = absurd (h refl)
never false h = refl

-- there is none of the name
greatest_none : (name : List ℕ) (ss : List Shared) → ((j : ℕ) (t : Shared) → slice_get ss j ≡ Some t → bytes_eq t.name name ≡ true → ⊥) → greatest_from name None ss ≡ None
greatest_none name [] h = refl
greatest_none name (t ∷ ts) h =
    ap (λ best. greatest_from name best ts) (other_name name t None (never (bytes_eq t.name name) (λ n. h 0 t refl n))) ∙ greatest_none name ts (λ j u e n. h (suc j) u e n)

-- a table of a name ranks before a greater version of it
ranks_before : (tables : List Shared) (order : List ℕ) (name : List ℕ) (past j : ℕ) (t : Shared) → Orders (keys tables) order → All (λ s. s.version ≤ 2147483647) tables
    → Belongs (in_order (keys tables) order) (key_of name 2147483648) past → slice_get tables j ≡ Some t → bytes_eq t.name name ≡ true
    → (r : ℕ) × ((r < past) × ((slice_get order r ≡ Some j) × (slice_get (in_order (keys tables) order) r ≡ Some (key t))))
ranks_before tables order name past j t h v b e n =
    let l : j < length tables = slice_get_within tables j t e in
    let w = h.whole j (simp length-map l) in
    let there : slice_get (keys tables) j ≡ Some (key t) = slice_get-map key tables j ∙ ap (option_map key) e in
    let at' : slice_get (in_order (keys tables) order) w.0 ≡ Some (key t) = order_has (keys tables) order (key t) j w.0 there w.1 in
    let small : t.version ≤ 2147483647 = subst (λ (s : Shared). s.version ≤ 2147483647) (get_or_from_slice_get tables j t t e) (v j t l) in
    let named : t.name ≡ name = (bytes_eq-Decides t.name name).0 n in
    let less : text_cmp (key t) (key_of name 2147483648) ≡ Less
    = same_name t.name name t.version 2147483648 named ∙ cmp_less t.version 2147483648 (nat_cmp t.version 2147483648) refl (omega (arith, small)) in (
      w.0,
      (
        elim (leb_tells past w.0) as (λ _. w.0 < past) [
          | inl y ↦ absurd (not_both (text_cmp (key t) (key_of name 2147483648)) less (after_is (in_order (keys tables) order) past w.0 (key t) (key_of name 2147483648) b y.1 at'))
          | inr y ↦ y.1
        ],
        (w.1, at'),
      ),
    )
  where
    not_both : (o : Ordering) → o ≡ Less → o ≡ Greater → ⊥
    not_both o e f = let g : Less ≡ Greater = sym e ∙ f in absurd (cc)

    after_is : (ts : List (List ℕ)) (past r : ℕ) (x k : List ℕ) → Belongs ts k past → past ≤ r → slice_get ts r ≡ Some x → text_cmp x k ≡ Greater
    after_is ts past r x k b y e =
        let l : r < length ts = slice_get_within ts r x e in
        let m : past + (r - past) ≡ r = omega (arith, y) in
        let is : get_or (drop past ts) (r - past) [] ≡ x = get_or-drop past ts (r - past) [] ∙ (ap (λ i. get_or ts i []) m ∙ get_or_from_slice_get ts r x [] e) in
        subst (λ u. text_cmp u k ≡ Greater) is (b.after (r - past) [] (simp length-drop (omega (arith, l, y))))

-- there is no table of the name where none ranks before
pub greatest_absent : (tables : List Shared) (order : List ℕ) (name : List ℕ) (past : ℕ) → Orders (keys tables) order → All (λ s. s.version ≤ 2147483647) tables
    → Belongs (in_order (keys tables) order) (key_of name 2147483648) past → past ≡ 0 → Points tables (greatest tables name) None
greatest_absent tables order name past h v b z =
    subst (λ s. Points tables s None)
    (sym (greatest_none name tables (λ j t e n. let r = ranks_before tables order name past j t h v b e n in omega (arith, r.1.0, z)))) tt

-- the last that ranks before is within the order
pub within_past : (tables : List Shared) (order : List ℕ) (name : List ℕ) (past : ℕ) → Belongs (in_order (keys tables) order) (key_of name 2147483648) past → 0 < past → past - 1 < length order
within_past tables order name past b p = let n : past ≤ length order = simp length-map at b.within in omega (arith, n, p)

-- of a table of the name and the last that ranks before: they are the same, or their keys are in order
last_before : (tables : List Shared) (order : List ℕ) (name : List ℕ) (past j : ℕ) (s t : Shared) → Orders (keys tables) order → All (λ s. s.version ≤ 2147483647) tables
    → Belongs (in_order (keys tables) order) (key_of name 2147483648) past → 0 < past → s ≡ get_or tables (get_or order (past - 1) 0) s → slice_get tables j ≡ Some t → bytes_eq t.name name ≡ true
    → ((j ≡ get_or order (past - 1) 0) × (t ≡ s)) ⊎ (text_cmp (key t) (key s) ≡ Less)
last_before tables order name past j s t h v b p is e n =
    let r = ranks_before tables order name past j t h v b e n in
    let ks = in_order (keys tables) order in
    let l : past - 1 < length order = within_past tables order name past b p in
    elim (leb_tells (past - 1) r.0) as (λ _. ((j ≡ get_or order (past - 1) 0) × (t ≡ s)) ⊎ (text_cmp (key t) (key s) ≡ Less)) [
      | inl y ↦
          let same : past - 1 ≡ r.0 = omega (arith, y.1, r.1.0) in
          let place : j ≡ get_or order (past - 1) 0 = sym (get_or_from_slice_get order r.0 j 0 r.1.1.0) ∙ ap (λ i. get_or order i 0) (sym same) in
          inl (place, sym (get_or_from_slice_get tables j t s e) ∙ (ap (λ i. get_or tables i s) place ∙ sym is))
      | inr y ↦
          let less : text_cmp (get_or ks r.0 []) (get_or ks (past - 1) []) ≡ Less = ascend_less ks r.0 (past - 1) [] [] h.ascend y.1 (rank_in tables order (past - 1) l) in
          inr (subst₂ (λ x y. text_cmp x y ≡ Less) (get_or_from_slice_get ks r.0 (key t) [] r.1.1.1) (key_at tables order (past - 1) s h l ∙ ap key (sym is)) less)
    ]

-- the last that ranks before is the greatest, where it has the name
pub greatest_last : (tables : List Shared) (order : List ℕ) (name : List ℕ) (past : ℕ) (s : Shared) → Orders (keys tables) order → All (λ s. s.version ≤ 2147483647) tables
    → Belongs (in_order (keys tables) order) (key_of name 2147483648) past → 0 < past → s ≡ get_or tables (get_or order (past - 1) 0) s → bytes_eq s.name name ≡ true
    → Points tables (greatest tables name) (Some (get_or order (past - 1) 0))
greatest_last tables order name past s h v b p is n =
    let i = get_or order (past - 1) 0 in
    let l : past - 1 < length order = within_past tables order name past b p in
    let there : slice_get tables i ≡ Some s = slice_get-get_or tables i s (place_in tables order (past - 1) h l) ∙ ap Some (sym is) in
    let named : s.name ≡ name = (bytes_eq-Decides s.name name).0 n in
    let others : Others tables name s i = λ j t e m. elim (last_before tables order name past j s t h v b p is e m) as (λ _. (j ≡ i) ⊎ (t.version < s.version)) [
      | inl x ↦ inl x.0
      | inr x ↦ inr (ranked t.version s.version Less (sym (sym (same_name t.name s.name t.version s.version ((bytes_eq-Decides t.name name).0 m ∙ sym named)) ∙ x)))
    ] in
    subst (λ o. Points tables o (Some i)) (sym (greatest_is name s tables i None tt there n others)) there

-- and where it has not, there is none
pub greatest_other : (tables : List Shared) (order : List ℕ) (name : List ℕ) (past : ℕ) (s : Shared) → Orders (keys tables) order → All (λ s. s.version ≤ 2147483647) tables
    → Belongs (in_order (keys tables) order) (key_of name 2147483648) past → 0 < past → s ≡ get_or tables (get_or order (past - 1) 0) s → bytes_eq s.name name ≡ false
    → Points tables (greatest tables name) None
greatest_other tables order name past s h v b p is n =
    let ks = in_order (keys tables) order in
    let l : past - 1 < length order = within_past tables order name past b p in
    let first : text_cmp (key s) (key_of name 2147483648) ≡ Less
    = subst (λ x. text_cmp x (key_of name 2147483648) ≡ Less) (key_at tables order (past - 1) s h l ∙ ap key (sym is)) (before_is ks past (key_of name 2147483648) b p) in
    let other : s.name ≡ name → ⊥ = λ e. true≢false (sym ((bytes_eq-Decides s.name name).1 e) ∙ n) in
    let below : text_cmp s.name name ≡ Less = elim (names_less s.name name s.version 2147483648 first) as (λ _. text_cmp s.name name ≡ Less) [ inl x ↦ x | inr x ↦ absurd (other x) ] in
    subst (λ o. Points tables o None)
    (sym (greatest_none name tables (λ j t e m.
    let named : t.name ≡ name = (bytes_eq-Decides t.name name).0 m in
    elim (last_before tables order name past j s t h v b p is e m) as (λ _. ⊥) [
      | inl x ↦ other (ap (λ (u : Shared). u.name) (sym x.1) ∙ named)
      | inr x ↦ elim (names_less t.name s.name t.version s.version x) as (λ _. ⊥) [
        | inl y ↦ not_less name (nat_list_cmp_total.trans name s.name name (subst (λ u. text_cmp u s.name ≡ Less) named y) below)
        | inr y ↦ other (sym y ∙ named)
      ]
    ]))) tt
  where
    before_is : (ts : List (List ℕ)) (past : ℕ) (k : List ℕ) → Belongs ts k past → 0 < past → text_cmp (get_or ts (past - 1) []) k ≡ Less
    before_is ts past k b p =
        subst (λ u. text_cmp u k ≡ Less) (get_or-take past ts (past - 1) [] (omega (arith, p))) (b.before (past - 1) [] (simp length-take (omega (arith, p, b.within))))

-- no table has a version above all
pub no_greater_version : {G : Type 0} (tables : List Shared) (order : List ℕ) (name : List ℕ) (rank : ℕ) → Orders (keys tables) order → All (λ s. s.version ≤ 2147483647) tables
    → slice_get (in_order (keys tables) order) rank ≡ Some (key_of name 2147483648) → G
no_greater_version tables order name rank h v e =
    let l : rank < length order = simp length-map at (slice_get_within (in_order (keys tables) order) rank (key_of name 2147483648) e) in
    let i = get_or order rank 0 in
    let s = get_or tables i blank in
    let is : key s ≡ key_of name 2147483648 = sym (key_at tables order rank blank h l) ∙ get_or_from_slice_get (in_order (keys tables) order) rank (key_of name 2147483648) [] e in
    let both : (bytes_eq s.name name && (s.version == 2147483648)) ≡ true
    = sym (key_eq s.name name s.version 2147483648) ∙ (bytes_eq-Decides (key s) (key_of name 2147483648)).1 is in
    let same : s.version ≡ 2147483648 = eqb-true s.version 2147483648 (and_parts (bytes_eq s.name name) (s.version == 2147483648) both).1 in
    absurd (omega (arith, same, v i blank (place_in tables order rank h l)))

-- ---- a table that is added

-- its place put in at its rank keeps the order
pub orders_added : (tables tables2 : List Shared) (order order2 : List ℕ) (s : Shared) (rank place : ℕ) → Orders (keys tables) order → Belongs (in_order (keys tables) order) (key s) rank → tables2 ≡ tables ++ s ∷ [] → order2 ≡ insert order rank place
    → place ≡ length tables → Orders (keys tables2) order2
orders_added tables tables2 order order2 s rank place h b a c e =
    rw (a, c) (subst₂ Orders (sym (map-append key tables (s ∷ []))) (ap (insert order rank) (length-map tables key ∙ sym e)) (orders_push (keys tables) order (key s) rank h b))

-- its version is none above all
pub versions_added : (tables tables2 : List Shared) (s : Shared) → All (λ s. s.version ≤ 2147483647) tables → may_stand tables s ≡ true → tables2 ≡ tables ++ s ∷ [] → All (λ s. s.version ≤ 2147483647) tables2
versions_added tables tables2 s h m a =
    let p = and_parts (is_name s.name) (nat_lt 0 s.version && (nat_le s.version 2147483647 && is_none (find tables s.name s.version))) m in
    let q = and_parts (nat_lt 0 s.version) (nat_le s.version 2147483647 && is_none (find tables s.name s.version)) p.1 in
    let r = and_parts (nat_le s.version 2147483647) (is_none (find tables s.name s.version)) q.1 in
    let few : s.version ≤ 2147483647 = leb-true s.version 2147483647 r.0 in
    rw a (All-append (λ (s : Shared). s.version ≤ 2147483647) tables (s ∷ []) h (All-cons (λ (s : Shared). s.version ≤ 2147483647) s [] few (All-nil (λ (s : Shared). s.version ≤ 2147483647))))

-- ---- the tables and the order of a catalogue, as they are lent

-- their order
pub orders_lent : (tables tables2 : List Shared) (order order2 : List ℕ) → Orders (keys tables) order → tables2 ≡ tables → order2 ≡ order → Orders (keys tables2) order2
orders_lent tables tables2 order order2 h a b = rw (a, b) h

-- their versions
pub versions_lent : (tables tables2 : List Shared) → All (λ s. s.version ≤ 2147483647) tables → tables2 ≡ tables → All (λ s. s.version ≤ 2147483647) tables2
versions_lent tables tables2 h a = rw a h

-- what was found among them is found in the catalogue
pub found_lent : (f : List Shared → Option Shared) (tables tables2 catalog : List Shared) (place : Option ℕ) → tables ≡ catalog → tables2 ≡ tables → Points tables2 (f tables2) place → Points catalog (f catalog) place
found_lent f tables tables2 catalog place a b p = subst (λ ts. Points ts (f ts) place) (b ∙ a) p

-- where a table may be added, it was not found
pub not_there : {G : Type 0} (catalog : List Shared) (s : Shared) (place : ℕ) → may_stand catalog s ≡ true → Points catalog (find catalog s.name s.version) (Some place) → G
not_there catalog s place m p =
    let q = and_parts (is_name s.name) (nat_lt 0 s.version && (nat_le s.version 2147483647 && is_none (find catalog s.name s.version))) m in
    let r = and_parts (nat_lt 0 s.version) (nat_le s.version 2147483647 && is_none (find catalog s.name s.version)) q.1 in
    let t = and_parts (nat_le s.version 2147483647) (is_none (find catalog s.name s.version)) r.1 in
    none_found (find catalog s.name s.version) t.1 p
  where
    none_found : {G : Type 0} (f : Option Shared) → is_none f ≡ true → Points catalog f (Some place) → G
    none_found None e p = absurd p
    none_found (Some s) e p = absurd (true≢false (sym e))

-- why a table was not added, where memory was refused
pub refused_table : (catalog : List Shared) (s : Shared) (old new : Counts) (why : Fault) → why ≡ Memory → may_stand catalog s ≡ true → IsRefused old new → WhyNotAdded catalog s old new why
refused_table catalog s old new why e m r = subst (WhyNotAdded catalog s old new) (sym e) (m, r)

-- where the key of a table belongs
pub belongs_lent : (tables tables2 : List Shared) (order order2 : List ℕ) (k k2 : List ℕ) (rank : ℕ) → tables2 ≡ tables → order2 ≡ order → k2 ≡ k → Belongs (in_order (keys tables2) order2) k2 rank → Belongs (in_order (keys tables) order) k rank
belongs_lent tables tables2 order order2 k k2 rank a b e h = rw (← a, ← b, ← e) h

-- tables and order that stay are still ranked
pub same_ranked : (tables tables2 : Entries Shared) (order order2 : Entries ℕ) → IsRanked tables.items order.items tables.cost order.cost → tables2 ≡ tables → order2 ≡ order → IsRanked tables2.items order2.items tables2.cost order2.cost
same_ranked tables tables2 order order2 h a b = rw (a, b) h

-- the order with a table more
pub added_order : (tables tables2 : Entries Shared) (order order2 : Entries ℕ) (s : Shared) (rank place : ℕ) → IsRanked tables.items order.items tables.cost order.cost → Belongs (in_order (keys tables.items) order.items) (key s) rank → may_stand tables.items s ≡ true
    → tables2.items ≡ tables.items ++ s ∷ [] → tables2.cost ≡ tables.cost → order2.items ≡ insert order.items rank place → order2.cost ≡ order.cost → place ≡ length tables.items → IsRanked tables2.items order2.items tables2.cost order2.cost
added_order tables tables2 order order2 s rank place h b m a c d e l = record {
  table_cost = c ∙ h.table_cost;
  place_cost = e ∙ h.place_cost;
  orders = orders_added tables.items tables2.items order.items order2.items s rank place h.orders b a d l;
  versions = versions_added tables.items tables2.items s h.versions m a;
}

-- texts stay UTF-8 where those of the table are
pub texts_added : (tables tables2 : List Shared) (s : Shared) → tables2 ≡ tables ++ s ∷ [] → SlotsAreText s.slots → CatalogIsText tables → CatalogIsText tables2
texts_added tables tables2 s e h k = subst CatalogIsText (sym e) (AllByRecursion-append (λ (s : Shared). SlotsAreText s.slots) tables (s ∷ []) k (h, tt))
