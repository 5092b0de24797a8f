-- Texts that are kept, and one more of them.
use Rattle.std.proofs.Common.{◌≡◌, ◌⊎◌, inl, inr, ℕ, suc, ◌+◌, ◌*◌, ◌^◌, ◌%◌, ◌<◌, ◌≤◌, true, false, List, [], ◌∷◌, ◌++◌, length, get_or, set, replicate, None, refl, ap, ap₂, sym, subst, subst₂, ◌∙◌, arith, below_more, length-append}
use Rattle.std.specs.List.{insert}
use Rattle.std.proofs.lemmas.Bool.{true≢false}
use Rattle.std.proofs.lemmas.List.{length-map, length-set, length-replicate, length_push, get_or-replicate, get_or-set_same, get_or-set_other, get_or_append_left, get_or_push}
use Rattle.std.proofs.lemmas.List.Edits.{insert_end, length-insert}
use Rattle.ion_meter.specs.Counts.{Counts, Grows}
use Rattle.ion_meter.specs.Entries.{Entries}
use Rattle.ion_value.specs.Shares.{Charges}
use Rattle.ion_symbols.specs.declared.ordered.Place.{Place}
use Rattle.ion_symbols.specs.declared.out_texts.OutTexts.{OutTexts}
use Rattle.ion_symbols.specs.declared.out_texts.Spot.{Spot}
use Rattle.ion_symbols.specs.declared.out_texts.Spot.TheVariants.{InOrder, First, After}
use Rattle.ion_symbols.specs.Hash.{hash_of, bucket_in, digits_in}
use Rattle.ion_symbols.specs.Output.{IsNew, system_id, texts_cost}
use Rattle.ion_symbols.specs.Ordered.{place_text, texts_in, in_order, Follow, Orders, Ordered}
use Rattle.ion_symbols.specs.OutTexts.{texts_of, firsts, link_of, IsReached, AreDistinct, AreLinked, Extend, AreKept, IsSpot, entry_at, CanLink, Links}
use Rattle.ion_symbols.proofs.OutputTexts.{kept_cost, follow_from, follow_push, texts_push, cost_push}
use Rattle.ion_symbols.proofs.Orders.{orders_push}
use Rattle.ion_symbols.proofs.Linking.{link_even, link_odd, reached_from, extend_then, extend_zero, extend_first, extend_second, get_or_zero, link_zero, set_cases, linked_none, linked_more, bucket_taken}
use Rattle.ion_symbols.proofs.Placing.{spans, firsts_push, firsts_linked, spans_linked, texts-spans, length-spans, follow-spans}
use Rattle.ion_symbols.proofs.Positions.{position_absent, apart_push}
use Rattle.ion_symbols.proofs.Seeking.{texts_length}

-- ---- no texts

distinct_none : AreDistinct [] []
distinct_none = record { follow = refl; few = omega arith; distinct = λ i j a b e. absurd (omega (arith, a)); no_system = λ i a. absurd (omega (arith, a)) }

-- so a table begins
pub none_kept : {A : Type 0} (k : OutTexts A) → k.bytes ≡ [] → k.places.items ≡ [] → k.ids.items ≡ [] → k.buckets ≡ replicate 512 0 → k.is_ordered ≡ false
    → k.places.cost ≡ 12 → k.ids.cost ≡ 4 → AreKept k
none_kept k a b c d o p q = record {
  texts = subst₂ AreDistinct (sym a) (sym b) distinct_none;
  place_cost = p;
  id_cost = q;
  long = ap length c ∙ sym (ap length b);
  many = ap length d ∙ length-replicate {A = ℕ} 512 0;
  fronts = λ i l. let z : get_or k.buckets i 0 ≡ 0 = ap (λ bs. get_or bs i 0) d ∙ get_or-replicate 512 i 0 0 l in omega (arith, z);
  order = λ y. absurd (true≢false (sym y ∙ o));
  links = λ _. subst (λ ps. AreLinked (texts_in k.bytes ps) (firsts ps) k.ids.items k.buckets) (sym b) (subst (λ is. AreLinked [] [] is k.buckets) (sym c) (linked_none k.buckets));
}

-- it has no texts
pub none_texts : {A : Type 0} (k : OutTexts A) → k.places.items ≡ [] → texts_of k ≡ []
none_texts k b = ap (texts_in k.bytes) b

-- ---- what they cost

pub kept_texts_cost : {A : Type 0} (k : OutTexts A) → AreKept k → texts_cost (texts_of k) ≡ 16 * length k.places.items + length k.bytes
kept_texts_cost k h = kept_cost k.bytes k.places.items h.texts.follow

-- what is counted for the bytes, the places and the ids
pub kept_parts_cost : {A : Type 0} (k : OutTexts A) → AreKept k → length k.bytes + (k.places.cost * length k.places.items + k.ids.cost * length k.ids.items) ≡ texts_cost (texts_of k)
kept_parts_cost k h =
    let e = kept_texts_cost k h in
    let a : k.places.cost * length k.places.items ≡ 12 * length k.places.items = ap (λ n. n * length k.places.items) h.place_cost in
    let b : k.ids.cost * length k.ids.items ≡ 4 * length k.ids.items = ap (λ n. n * length k.ids.items) h.id_cost in
    omega (arith, e, a, b, h.long)

-- ---- their order

-- a search of them
pub ordered_kept : {A : Type 0} (k : OutTexts A) (bytes : List ℕ) (places : List Place) (order : List ℕ) → AreKept k → k.is_ordered ≡ true → bytes ≡ k.bytes → places ≡ k.places.items → order ≡ k.ids.items
    → Ordered bytes places order
ordered_kept k bytes places order h o a b c =
    rw (a, b, c) (record { within = follow_from k.bytes k.places.items h.texts.follow; orders = h.order o; few = h.texts.few })

-- ---- a text more

-- one that is new differs from all of them
distinct_push : (bytes bytes2 : List ℕ) (places places2 : List Place) (t : List ℕ) → AreDistinct bytes places → IsNew (texts_in bytes places) t → texts_in bytes2 places2 ≡ texts_in bytes places ++ t ∷ []
    → length places2 ≡ length places + 1 → Follow 0 places2 (length bytes2) → length places2 < 2 ^ 31 → AreDistinct bytes2 places2
distinct_push bytes bytes2 places places2 t h new e n f few = record {
  follow = f;
  few = few;
  distinct = λ i j a b.
      subst (λ ts. get_or ts i [] ≡ get_or ts j [] → i ≡ j) (sym e)
      (apart_push (texts_in bytes places) t (length places) long h.distinct none i j (omega (arith, a, n)) (omega (arith, b, n)));
  no_system = λ i a.
      subst (λ ts. system_id (get_or ts i []) ≡ None) (sym e)
      (below_more (λ i. system_id (get_or (texts_in bytes places ++ t ∷ []) i []) ≡ None) (length places)
      (λ i l. ap system_id (get_or_append_left (texts_in bytes places) (t ∷ []) [] i (within i l)) ∙ h.no_system i l)
      (ap system_id (get_or_push (texts_in bytes places) t [] (length places) long) ∙ new.no_system) i (omega (arith, a, n)));
}
  where
    long : length (texts_in bytes places) ≡ length places
    long = length-map places (place_text bytes)

    within : (i : ℕ) → i < length places → i < length (texts_in bytes places)
    within i l = subst (λ m. i < m) (sym long) l

    none : (i : ℕ) → i < length places → get_or (texts_in bytes places) i [] ≡ t → ⊥
    none i l is = position_absent (texts_in bytes places) t new.absent i (within i l) is

-- a text more is one place more
can_length : {A : Type 0} (k : OutTexts A) (t : List ℕ) (spot : Spot) (h : CanLink k t spot) → length k.places.items ≡ length h.before.places.items + 1
can_length k t spot h = sym (texts_length k) ∙ (ap length h.texts ∙ (length_push (texts_of h.before) t ∙ ap (λ n. n + 1) (texts_length h.before)))

can_texts : {A : Type 0} (k : OutTexts A) (t : List ℕ) (spot : Spot) (h : CanLink k t spot) → AreDistinct k.bytes k.places.items
can_texts k t spot h = distinct_push h.before.bytes k.bytes h.before.places.items k.places.items t h.kept.texts h.is_new h.texts (can_length k t spot h) h.follow h.few

-- the fronts of the buckets are still the same
can_front : {A : Type 0} (k : OutTexts A) (t : List ℕ) (spot : Spot) (h : CanLink k t spot) (b : ℕ) → b < 512 → get_or k.buckets b 0 ≤ length h.before.places.items
can_front k t spot h b l = subst (λ bs. get_or bs b 0 ≤ length h.before.places.items) (sym h.buckets) (h.kept.fronts b l)

-- it has no links yet
can_extend : {A : Type 0} (k : OutTexts A) (t : List ℕ) (spot : Spot) (h : CanLink k t spot) → h.before.is_ordered ≡ false
    → Extend (firsts h.before.places.items) h.before.ids.items (firsts k.places.items) k.ids.items
can_extend k t spot h o = subst₂ (Extend (firsts h.before.places.items) h.before.ids.items) (sym h.first) (sym (h.second o)) (extend_zero (firsts h.before.places.items) h.before.ids.items)

can_first : {A : Type 0} (k : OutTexts A) (t : List ℕ) (spot : Spot) (h : CanLink k t spot) → h.before.is_ordered ≡ false → (i : ℕ)
    → get_or (firsts k.places.items) i 0 ≤ length (texts_of h.before)
can_first k t spot h o i =
    let e : get_or (firsts k.places.items) i 0 ≡ get_or (firsts h.before.places.items) i 0 = ap (λ xs. get_or xs i 0) h.first ∙ get_or_zero (firsts h.before.places.items) i in
    subst (λ n. n ≤ length (texts_of h.before)) (sym e) ((h.kept.links o).first_within i)

can_second : {A : Type 0} (k : OutTexts A) (t : List ℕ) (spot : Spot) (h : CanLink k t spot) → h.before.is_ordered ≡ false → (i : ℕ)
    → get_or k.ids.items i 0 ≤ length (texts_of h.before)
can_second k t spot h o i =
    let e : get_or k.ids.items i 0 ≡ get_or h.before.ids.items i 0 = ap (λ xs. get_or xs i 0) (h.second o) ∙ get_or_zero h.before.ids.items i in
    subst (λ n. n ≤ length (texts_of h.before)) (sym e) ((h.kept.links o).second_within i)

-- where they are in order, and another stands in front of its bucket, it is one of them
pub linked_in_order : {A : Type 0} (k : OutTexts A) (t : List ℕ) (spot : Spot) (of : ℕ) → CanLink k t spot → ((number digits : ℕ) → spot ≡ After number digits → ⊥)
    → of ≡ bucket_in (hash_of t) → 0 < get_or k.buckets of 0 → AreKept k
linked_in_order k t (InOrder place) of h other e p = record {
  texts = can_texts k t (InOrder place) h;
  place_cost = h.place_cost;
  id_cost = h.id_cost;
  long = h.long;
  many = ap length h.buckets ∙ h.kept.many;
  fronts = λ b l. let w = can_front k t (InOrder place) h b l in let n = can_length k t (InOrder place) h in omega (arith, w, n);
  order = λ y. h.order h.free.0;
  links = λ y. absurd (true≢false (sym h.free.0 ∙ (sym h.ordered ∙ y)));
}
linked_in_order k t First of h other e p =
    let z : get_or k.buckets of 0 ≡ 0 = ap (λ bs. get_or bs of 0) h.buckets ∙ (ap (λ n. get_or h.before.buckets n 0) e ∙ h.free.1) in
    absurd (omega (arith, p, z))
linked_in_order k t (After number digits) of h other e p = absurd (other number digits refl)

-- a bucket whose front is set
fronts_set : (buckets : List ℕ) (of last b n : ℕ) → of < length buckets → get_or buckets b 0 ≤ n → last ≤ n → get_or (set buckets of last) b 0 ≤ n
fronts_set buckets of last b n l w e = elim (set_cases buckets of last b l) as (λ _. get_or (set buckets of last) b 0 ≤ n) [ inl y ↦ omega (arith, y, w) | inr y ↦ omega (arith, y, e) ]

-- where none stands in front of its bucket it is put there
pub linked_in_front : {A : Type 0} (k : OutTexts A) (t : List ℕ) (spot : Spot) (of last : ℕ) → CanLink k t spot → ((number digits : ℕ) → spot ≡ After number digits → ⊥)
    → of ≡ bucket_in (hash_of t) → of < 512 → get_or k.buckets of 0 ≡ 0 → last ≡ length k.places.items → AreKept (record k { buckets = set k.buckets of last })
linked_in_front k t (InOrder place) of last h other e l z m = record {
  texts = can_texts k t (InOrder place) h;
  place_cost = h.place_cost;
  id_cost = h.id_cost;
  long = h.long;
  many = length-set k.buckets of last ∙ (ap length h.buckets ∙ h.kept.many);
  fronts = λ b w. fronts_set k.buckets of last b (length k.places.items) (omega (arith, l, ap length h.buckets, h.kept.many))
      (let v = can_front k t (InOrder place) h b w in let n = can_length k t (InOrder place) h in omega (arith, v, n)) (omega (arith, m));
  order = λ y. h.order h.free.0;
  links = λ y. absurd (true≢false (sym h.free.0 ∙ (sym h.ordered ∙ y)));
}
linked_in_front k t First of last h other e l z m = record {
  texts = can_texts k t First h;
  place_cost = h.place_cost;
  id_cost = h.id_cost;
  long = h.long;
  many = length-set k.buckets of last ∙ (ap length h.buckets ∙ h.kept.many);
  fronts = λ b w. fronts_set k.buckets of last b (length k.places.items) of_within (let v = can_front k t First h b w in omega (arith, v, n)) (omega (arith, m));
  order = λ y. absurd (true≢false (sym y ∙ (h.ordered ∙ h.free.0)));
  links = λ y.
      subst (λ ts. AreLinked ts (firsts k.places.items) k.ids.items (set k.buckets of last)) (sym h.texts)
      (linked_more (texts_of h.before) t (firsts h.before.places.items) h.before.ids.items (firsts k.places.items) k.ids.items h.before.buckets (set k.buckets of last) (h.kept.links h.free.0)
      (can_extend k t First h h.free.0) (λ i. let v = can_first k t First h h.free.0 i in omega (arith, v)) (λ i. let v = can_second k t First h h.free.0 i in omega (arith, v)) others new);
}
  where
    n : length k.places.items ≡ length h.before.places.items + 1
    n = can_length k t First h

    of_within : of < length k.buckets
    of_within = omega (arith, l, ap length h.buckets, h.kept.many)

    another : (i : ℕ) → i < length (texts_of h.before) → bucket_in (hash_of (get_or (texts_of h.before) i [])) ≡ of → ⊥
    another i w same =
        let taken = bucket_taken (texts_of h.before) (firsts h.before.places.items) h.before.ids.items h.before.buckets i (h.kept.links h.free.0) w in
        let a : get_or h.before.buckets (bucket_in (hash_of (get_or (texts_of h.before) i []))) 0 ≡ get_or h.before.buckets of 0 = ap (λ b. get_or h.before.buckets b 0) same in
        let b : get_or k.buckets of 0 ≡ get_or h.before.buckets of 0 = ap (λ bs. get_or bs of 0) h.buckets in
        omega (arith, taken, a, b, z)

    others : (i : ℕ) → i < length (texts_of h.before) → get_or (set k.buckets of last) (bucket_in (hash_of (get_or (texts_of h.before) i []))) 0
        ≡ get_or h.before.buckets (bucket_in (hash_of (get_or (texts_of h.before) i []))) 0
    others i w =
        get_or-set_other k.buckets of (bucket_in (hash_of (get_or (texts_of h.before) i []))) last 0 (another i w)
        ∙ ap (λ bs. get_or bs (bucket_in (hash_of (get_or (texts_of h.before) i []))) 0) h.buckets

    there : get_or (set k.buckets of last) (bucket_in (hash_of t)) 0 ≡ suc (length (texts_of h.before))
    there =
        ap (λ b. get_or (set k.buckets of last) b 0) (sym e)
        ∙ (get_or-set_same k.buckets of last 0 of_within ∙ omega (arith, m, n, texts_length h.before))

    new : IsReached (firsts k.places.items) k.ids.items 32 (digits_in (hash_of t)) (get_or (set k.buckets of last) (bucket_in (hash_of t)) 0) (length (texts_of h.before))
    new =
        reached_from (firsts k.places.items) k.ids.items 32 31 (digits_in (hash_of t)) (get_or (set k.buckets of last) (bucket_in (hash_of t)) 0) (length (texts_of h.before)) (length (texts_of h.before))
        refl there (inl refl)
linked_in_front k t (After number digits) of last h other e l z m = absurd (other number digits refl)

-- texts stay different where one of them links to another
distinct_linked : {A : Type 0} (k now : OutTexts A) (number digits last : ℕ) → Links k now number digits last → AreDistinct k.bytes k.places.items → AreDistinct now.bytes now.places.items
distinct_linked k now number digits last x h = record {
  follow = x.follow h.follow;
  few = subst (λ n. n < 2 ^ 31) (sym x.places) h.few;
  distinct = λ i j a b. subst (λ ts. get_or ts i [] ≡ get_or ts j [] → i ≡ j) (sym x.texts) (h.distinct i j (subst (λ n. i < n) x.places a) (subst (λ n. j < n) x.places b));
  no_system = λ i a. subst (λ ts. system_id (get_or ts i []) ≡ None) (sym x.texts) (h.no_system i (subst (λ n. i < n) x.places a));
}

-- after another text it is linked by that one's link
pub linked_after : {A : Type 0} (k now : OutTexts A) (t : List ℕ) (number digits last : ℕ) → CanLink k t (After number digits) → Links k now number digits last → last ≡ length k.places.items → AreKept now
linked_after {A} k now t number digits last h x m = record {
  texts = distinct_linked k now number digits last x (can_texts k t (After number digits) h);
  place_cost = x.place_cost ∙ h.place_cost;
  id_cost = x.id_cost ∙ h.id_cost;
  long = x.long ∙ (h.long ∙ sym x.places);
  many = ap length buckets ∙ h.kept.many;
  fronts = λ b l.
      let v : get_or h.before.buckets b 0 ≤ length h.before.places.items = h.kept.fronts b l in
      let e : get_or now.buckets b 0 ≡ get_or h.before.buckets b 0 = ap (λ bs. get_or bs b 0) buckets in
      omega (arith, v, e, n, x.places);
  order = λ y. absurd (true≢false (sym y ∙ (ap (λ (s : OutTexts A). s.is_ordered) x.rest ∙ (h.ordered ∙ h.free.linked))));
  links = λ y.
      subst (λ ts. AreLinked ts (firsts now.places.items) now.ids.items now.buckets) (sym (x.texts ∙ h.texts))
      (linked_more (texts_of h.before) t (firsts h.before.places.items) h.before.ids.items (firsts now.places.items) now.ids.items h.before.buckets now.buckets (h.kept.links h.free.linked)
      extend first_within second_within (λ i w. ap (λ bs. get_or bs (bucket_in (hash_of (get_or (texts_of h.before) i []))) 0) buckets)
      (subst (λ bs. IsReached (firsts now.places.items) now.ids.items 32 (digits_in (hash_of t)) (get_or bs (bucket_in (hash_of t)) 0) (length (texts_of h.before))) (sym buckets)
      (h.free.reaches (firsts now.places.items) now.ids.items (length (texts_of h.before)) extend (x.is_set ∙ (m ∙ (n ∙ ap (λ k. k + 1) (sym (texts_length h.before))))))));
}
  where
    n : length k.places.items ≡ length h.before.places.items + 1
    n = can_length k t (After number digits) h

    buckets : now.buckets ≡ h.before.buckets
    buckets = ap (λ (s : OutTexts A). s.buckets) x.rest ∙ h.buckets

    free : link_of (firsts k.places.items) k.ids.items number digits ≡ 0
    free =
        ap₂ (λ xs ys. link_of xs ys number digits) h.first (h.second h.free.linked)
        ∙ (link_zero (firsts h.before.places.items) h.before.ids.items number digits ∙ h.free.free)

    extend : Extend (firsts h.before.places.items) h.before.ids.items (firsts now.places.items) now.ids.items
    extend =
        extend_then (firsts h.before.places.items) h.before.ids.items (firsts k.places.items) k.ids.items (firsts now.places.items) now.ids.items
        (can_extend k t (After number digits) h h.free.linked) (x.kept free)

    first_within : (i : ℕ) → get_or (firsts now.places.items) i 0 ≤ length (texts_of h.before) + 1
    first_within i =
        let v = can_first k t (After number digits) h h.free.linked i in
        elim (x.first_within i) as (λ _. get_or (firsts now.places.items) i 0 ≤ length (texts_of h.before) + 1) [
          | inl y ↦ omega (arith, y, v)
          | inr y ↦ omega (arith, y, m, n, texts_length h.before)
        ]

    second_within : (i : ℕ) → get_or now.ids.items i 0 ≤ length (texts_of h.before) + 1
    second_within i =
        let v = can_second k t (After number digits) h h.free.linked i in
        elim (x.second_within i) as (λ _. get_or now.ids.items i 0 ≤ length (texts_of h.before) + 1) [
          | inl y ↦ omega (arith, y, v)
          | inr y ↦ omega (arith, y, m, n, texts_length h.before)
        ]

-- ---- a link that is set

-- the second one
pub links_second : {A : Type 0} (k : OutTexts A) (ids : Entries ℕ) (number digits last : ℕ) → number < length k.places.items → length k.ids.items ≡ length k.places.items → digits % 2 ≡ 1
    → ids.items ≡ set k.ids.items number last → ids.cost ≡ k.ids.cost → Links k (record k { ids = ids }) number digits last
links_second k ids number digits last l long e f c = record {
  rest = refl;
  texts = refl;
  follow = λ h. h;
  place_cost = refl;
  id_cost = c;
  long = ap length f ∙ length-set k.ids.items number last;
  places = refl;
  is_set = link_odd (firsts k.places.items) ids.items number digits e ∙ (ap (λ is. get_or is number 0) f ∙ get_or-set_same k.ids.items number last 0 within);
  kept = λ z. subst (Extend (firsts k.places.items) k.ids.items (firsts k.places.items)) (sym f) (extend_second (firsts k.places.items) k.ids.items number digits last e z);
  first_within = λ i. inl refl;
  second_within = λ i. subst (λ is. (get_or is i 0 ≡ get_or k.ids.items i 0) ⊎ (get_or is i 0 ≡ last)) (sym f) (set_cases k.ids.items number last i within);
}
  where
    within : number < length k.ids.items
    within = omega (arith, l, long)

-- the first one
pub links_first : {A : Type 0} (k : OutTexts A) (places : Entries Place) (read : List Place) (number digits last : ℕ) (d : Place) → number < length k.places.items → digits % 2 ≡ 0 → read ≡ k.places.items
    → places.items ≡ set k.places.items number (record { from = (get_or read number d).from; to = (get_or read number d).to; next = last }) → places.cost ≡ k.places.cost
    → Links k (record k { places = places }) number digits last
links_first k places read number digits last d l e r f c = record {
  rest = refl;
  texts = texts-spans k.bytes k.places.items places.items same;
  follow = λ h. follow-spans 0 k.places.items places.items (length k.bytes) same h;
  place_cost = c;
  id_cost = refl;
  long = refl;
  places = length-spans k.places.items places.items same;
  is_set = link_even (firsts places.items) k.ids.items number digits e ∙ (ap (λ xs. get_or xs number 0) first ∙ get_or-set_same (firsts k.places.items) number last 0 within);
  kept = λ z. subst (λ xs. Extend (firsts k.places.items) k.ids.items xs k.ids.items) (sym first) (extend_first (firsts k.places.items) k.ids.items number digits last e z);
  first_within = λ i. subst (λ xs. (get_or xs i 0 ≡ get_or (firsts k.places.items) i 0) ⊎ (get_or xs i 0 ≡ last)) (sym first) (set_cases (firsts k.places.items) number last i within);
  second_within = λ i. inl refl;
}
  where
    same : spans places.items ≡ spans k.places.items
    same = spans_linked k.places.items read places.items number last d l r f

    first : firsts places.items ≡ set (firsts k.places.items) number last
    first = firsts_linked k.places.items places.items number last (record { from = (get_or read number d).from; to = (get_or read number d).to; next = last }) f refl

    within : number < length (firsts k.places.items)
    within = subst (λ n. number < n) (sym (length-map k.places.items (λ (p : Place). p.next))) l

-- ---- a text that is added

-- the place among the ids is one of them, or after them
pub entry_within : {A : Type 0} (k : OutTexts A) (t : List ℕ) (spot : Spot) (n : ℕ) → AreKept k → IsSpot k t spot → n ≡ length k.places.items → (entry_at spot n).0 ≤ length k.ids.items
entry_within k t (InOrder place) n h s e =
    let w : place ≤ length (in_order (texts_of k) k.ids.items) = s.1.within in
    subst (λ m. place ≤ m) (length-map k.ids.items (λ i. get_or (texts_of k) i [])) w
entry_within k t First n h s e = omega (arith, e, h.long)
entry_within k t (After number digits) n h s e = omega (arith, e, h.long)

-- a text and its entry were put after the others
pub record IsAdded {A : Type 0} (old now : OutTexts A) (t : List ℕ) (p : Place) : Type 0 where
  pub bytes : now.bytes ≡ old.bytes ++ t
  pub places : now.places.items ≡ old.places.items ++ p ∷ []
  pub begins : p.from ≡ length old.bytes
  pub ends : p.to ≡ length old.bytes + length t
  pub no_link : p.next ≡ 0
  pub place_cost : now.places.cost ≡ old.places.cost
  pub id_cost : now.ids.cost ≡ old.ids.cost
  pub buckets : now.buckets ≡ old.buckets
  pub ordered : now.is_ordered ≡ old.is_ordered

-- the texts are those there were and that one
pub added_texts : {A : Type 0} (old now : OutTexts A) (t : List ℕ) (p : Place) → AreKept old → IsAdded old now t p → texts_of now ≡ texts_of old ++ t ∷ []
added_texts old now t p h a =
    ap₂ (λ (bs : List ℕ) (ps : List Place). texts_in bs ps) a.bytes a.places ∙ texts_push old.bytes t old.places.items p h.texts.follow a.begins a.ends

-- where one stands that is put after bytes, without links
abbrev pub place_after : List ℕ → List ℕ → Place
place_after bytes t = record { from = length bytes; to = length bytes + length t; next = 0 }

-- so it is put there
pub is_added : {A : Type 0} (old : OutTexts A) (from bytes t : List ℕ) (places : Entries Place) (ids : Entries ℕ) → from ≡ old.bytes → bytes ≡ old.bytes ++ t → places.items ≡ old.places.items ++ place_after from t ∷ []
    → places.cost ≡ old.places.cost → ids.cost ≡ old.ids.cost → IsAdded old (record old { bytes = bytes; places = places; ids = ids }) t (place_after from t)
is_added old from bytes t places ids a b c d e = record {
  bytes = b;
  places = c;
  begins = ap length a;
  ends = ap (λ (bs : List ℕ). length bs + length t) a;
  no_link = refl;
  place_cost = d;
  id_cost = e;
  buckets = refl;
  ordered = refl;
}

-- its numbers are small
pub place_small : {A : Type 0} (old : OutTexts A) (from t : List ℕ) → AreKept old → from ≡ old.bytes → texts_cost (texts_of old) + (16 + length t) ≤ 2 ^ 30 → length from + length t ≤ 2 ^ 30
place_small old from t h a small =
    let n : length from ≡ length old.bytes = ap length a in
    omega (arith, n, small, kept_texts_cost old h)

-- so it can be linked
can_link : {A : Type 0} (old now : OutTexts A) (t : List ℕ) (spot : Spot) (p : Place) → AreKept old → IsNew (texts_of old) t → IsSpot old t spot → IsAdded old now t p
    → texts_cost (texts_of old) + (16 + length t) ≤ 2 ^ 30 → length now.ids.items ≡ length old.places.items + 1
    → (old.is_ordered ≡ true → Orders (texts_of old ++ t ∷ []) now.ids.items) → (old.is_ordered ≡ false → now.ids.items ≡ old.ids.items ++ 0 ∷ []) → CanLink now t spot
can_link old now t spot p h new at' a small long order second = record {
  before = old;
  kept = h;
  is_new = new;
  free = at';
  texts = added_texts old now t p h a;
  follow = subst₂ (λ ps n. Follow 0 ps n) (sym a.places) (a.ends ∙ sym ends) (follow_push 0 old.places.items (length old.bytes) p h.texts.follow a.begins (omega (arith, a.ends)));
  few = let c = kept_texts_cost old h in omega (arith, c, small, many);
  place_cost = a.place_cost ∙ h.place_cost;
  id_cost = a.id_cost ∙ h.id_cost;
  long = long ∙ sym many;
  buckets = a.buckets;
  ordered = a.ordered;
  order = λ y. subst (λ ts. Orders ts now.ids.items) (sym (added_texts old now t p h a)) (order y);
  first = firsts_push old.places.items now.places.items p a.places a.no_link;
  second = second;
}
  where
    many : length now.places.items ≡ length old.places.items + 1
    many = ap length a.places ∙ length_push old.places.items p

    ends : length now.bytes ≡ length old.bytes + length t
    ends = ap length a.bytes ∙ length-append old.bytes t

-- after the others, where they are linked
pub can_link_pushed : {A : Type 0} (old now : OutTexts A) (t : List ℕ) (spot : Spot) (p : Place) → AreKept old → IsNew (texts_of old) t → IsSpot old t spot → IsAdded old now t p
    → texts_cost (texts_of old) + (16 + length t) ≤ 2 ^ 30 → old.is_ordered ≡ false → now.ids.items ≡ old.ids.items ++ 0 ∷ [] → CanLink now t spot
can_link_pushed old now t spot p h new at' a small o e =
    can_link old now t spot p h new at' a small (ap length e ∙ (length_push old.ids.items 0 ∙ ap (λ n. n + 1) h.long)) (λ y. absurd (true≢false (sym y ∙ o))) (λ _. e)

-- or where its entry is
pub can_link_put : {A : Type 0} (old now : OutTexts A) (t : List ℕ) (spot : Spot) (p : Place) (n : ℕ) → AreKept old → IsNew (texts_of old) t → IsSpot old t spot → IsAdded old now t p
    → texts_cost (texts_of old) + (16 + length t) ≤ 2 ^ 30 → n ≡ length old.places.items → now.ids.items ≡ insert old.ids.items (entry_at spot n).0 (entry_at spot n).1 → CanLink now t spot
can_link_put old now t spot p n h new at' a small m e =
    can_link old now t spot p h new at' a small
    (ap length e ∙ (length-insert old.ids.items (entry_at spot n).0 (entry_at spot n).1 (entry_within old t spot n h at' m) ∙ ap (λ k. k + 1) h.long)) (order spot at' e) (second spot at' e)
  where
    order : (s : Spot) → IsSpot old t s → now.ids.items ≡ insert old.ids.items (entry_at s n).0 (entry_at s n).1 → old.is_ordered ≡ true → Orders (texts_of old ++ t ∷ []) now.ids.items
    order (InOrder place) at2 e2 y =
        let k : length (texts_of old) ≡ n = texts_length old ∙ sym m in
        subst (Orders (texts_of old ++ t ∷ [])) (sym (e2 ∙ ap (insert old.ids.items place) (sym k))) (orders_push (texts_of old) old.ids.items t place (h.order y) at2.1)
    order First at2 e2 y = absurd (true≢false (sym y ∙ at2.0))
    order (After number digits) at2 e2 y = absurd (true≢false (sym y ∙ at2.linked))

    last : insert old.ids.items n 0 ≡ old.ids.items ++ 0 ∷ []
    last = ap (λ k. insert old.ids.items k 0) (m ∙ sym h.long) ∙ insert_end old.ids.items 0

    second : (s : Spot) → IsSpot old t s → now.ids.items ≡ insert old.ids.items (entry_at s n).0 (entry_at s n).1 → old.is_ordered ≡ false → now.ids.items ≡ old.ids.items ++ 0 ∷ []
    second (InOrder place) at2 e2 y = absurd (true≢false (sym at2.0 ∙ y))
    second First at2 e2 y = e2 ∙ last
    second (After number digits) at2 e2 y = e2 ∙ last

-- its cost is charged in two parts
pub charges_add : (m0 m1 m2 : Counts) (texts texts2 : List (List ℕ)) (t : List ℕ) (of_place of_id : ℕ) → Grows m0 m1 (length t) → Grows m1 m2 (of_place + of_id) → of_place ≡ 12 → of_id ≡ 4
    → texts_cost texts ≤ m0.held → texts2 ≡ texts ++ t ∷ [] → Charges m0 m2 (texts_cost texts) (texts_cost texts2) (texts_cost texts + (16 + length t))
charges_add m0 m1 m2 texts texts2 t of_place of_id a b x y h f =
    let k : texts_cost texts2 ≡ texts_cost texts + (16 + length t) = ap texts_cost f ∙ cost_push texts t in
    record {
      held = omega (arith, a.held, b.held, x, y, k);
      share = omega (arith, k);
      peak = omega (arith, a.held, b.held, a.peak, b.peak, x, y, h);
      rises = omega (arith, a.peak, b.peak);
    }

-- ---- the texts as they were

-- where each part is what it was, all is
pub same_texts : {A : Type 0} (old : OutTexts A) (bytes : List ℕ) (places : Entries Place) (ids : Entries ℕ) → bytes ≡ old.bytes → places ≡ old.places → ids ≡ old.ids
    → record old { bytes = bytes; places = places; ids = ids } ≡ old
same_texts {A} old bytes places ids a b c =
    ap (λ (bs : List ℕ). with_parts bs places ids) a ∙ (ap (λ (ps : Entries Place). with_parts old.bytes ps ids) b ∙ ap (λ (is : Entries ℕ). with_parts old.bytes old.places is) c)
  where
    with_parts : List ℕ → Entries Place → Entries ℕ → OutTexts A
    with_parts bs ps is = record old { bytes = bs; places = ps; ids = is }
