-- A text that is looked for by links.
use Rattle.std.proofs.Common.{◌≡◌, ◌⊎◌, inl, inr, ℕ, suc, ◌+◌, ◌-◌, ◌/◌, ◌<◌, ◌≤◌, false, List, [], length, get_or, Some, None, refl, ap, sym, subst, subst₂, ◌∙◌, arith}
use Rattle.std.proofs.lemmas.List.{length-map}
use Rattle.ion_symbols.specs.declared.out_texts.OutTexts.{OutTexts}
use Rattle.ion_symbols.specs.Hash.{hash_of, bucket_in, digits_in}
use Rattle.ion_symbols.specs.Output.{position}
use Rattle.ion_symbols.specs.Ordered.{place_text}
use Rattle.ion_symbols.specs.OutTexts.{texts_of, firsts, link_of, IsReached, Extend, AreKept, IsAfter}
use Rattle.ion_symbols.proofs.Linking.{reached_some, reached_cases, reached_from}
use Rattle.ion_symbols.proofs.Orders.{absent_position}
use Rattle.ion_symbols.proofs.Positions.{position_there}

-- the text that is looked for is come to from here, where it is there, and whoever is come to from here is from the front
pub record Seeking {A : Type 0} (k : OutTexts A) (t : List ℕ) (at left digits : ℕ) : Type 0 where
  pub some : 0 < at
  pub within : at ≤ length (texts_of k)
  pub onward : (i : ℕ) → i < length (texts_of k) → get_or (texts_of k) i [] ≡ t → IsReached (firsts k.places.items) k.ids.items left digits at i
  pub back : (first2 second2 : List ℕ) (i : ℕ) → Extend (firsts k.places.items) k.ids.items first2 second2 → IsReached first2 second2 left digits at i
      → IsReached first2 second2 32 (digits_in (hash_of t)) (get_or k.buckets (bucket_in (hash_of t)) 0) i

-- as many places as texts
pub texts_length : {A : Type 0} (k : OutTexts A) → length (texts_of k) ≡ length k.places.items
texts_length k = length-map k.places.items (place_text k.bytes)

-- the front of a bucket
pub front_within : {A : Type 0} (k : OutTexts A) (b : ℕ) → AreKept k → b < 512 → get_or k.buckets b 0 ≤ length (texts_of k)
front_within k b h l = subst (λ n. get_or k.buckets b 0 ≤ n) (sym (texts_length k)) (h.fronts b l)

-- it begins there
pub seek_first : {A : Type 0} (k : OutTexts A) (t : List ℕ) (hash b digits : ℕ) → AreKept k → k.is_ordered ≡ false → hash ≡ hash_of t → b ≡ bucket_in hash → b < 512
    → 0 < get_or k.buckets b 0 → digits ≡ digits_in hash → Seeking k t (get_or k.buckets b 0) 32 digits
seek_first k t hash b digits h o e f l p d =
    let at' : get_or k.buckets b 0 ≡ get_or k.buckets (bucket_in (hash_of t)) 0 = ap (λ n. get_or k.buckets n 0) (f ∙ ap bucket_in e) in
    let by : digits ≡ digits_in (hash_of t) = d ∙ ap digits_in e in
    record {
      some = p;
      within = front_within k b h l;
      onward = λ i m is.
          subst₂ (λ a d. IsReached (firsts k.places.items) k.ids.items 32 d a i) (sym at') (sym by)
          (subst (λ u. IsReached (firsts k.places.items) k.ids.items 32 (digits_in (hash_of u)) (get_or k.buckets (bucket_in (hash_of u)) 0) i) is ((h.links o).reached i m));
      back = λ first2 second2 i x r. subst₂ (λ a d. IsReached first2 second2 32 d a i) at' by r;
    }

-- where none stands there the text is new
pub seek_empty : {A : Type 0} (k : OutTexts A) (t : List ℕ) (hash b : ℕ) → AreKept k → k.is_ordered ≡ false → hash ≡ hash_of t → b ≡ bucket_in hash
    → get_or k.buckets b 0 ≡ 0 → (position (texts_of k) t ≡ None) × ((k.is_ordered ≡ false) × (get_or k.buckets (bucket_in (hash_of t)) 0 ≡ 0))
seek_empty k t hash b h o e f z =
    let none : get_or k.buckets (bucket_in (hash_of t)) 0 ≡ 0 = ap (λ n. get_or k.buckets n 0) (sym (f ∙ ap bucket_in e)) ∙ z in
    let away : position (texts_of k) t ≡ None = absent_position (texts_of k) t (λ i l is. absent i l is none) in
    (away, (o, none))
  where
    absent : (i : ℕ) → i < length (texts_of k) → get_or (texts_of k) i [] ≡ t → get_or k.buckets (bucket_in (hash_of t)) 0 ≡ 0 → ⊥
    absent i l is none =
        let some : 0 < get_or k.buckets (bucket_in (hash_of (get_or (texts_of k) i []))) 0
        = (reached_some (firsts k.places.items) k.ids.items 32 (digits_in (hash_of (get_or (texts_of k) i []))) (get_or k.buckets (bucket_in (hash_of (get_or (texts_of k) i []))) 0) i ((h.links o).reached i l)).1 in
        let there : get_or k.buckets (bucket_in (hash_of (get_or (texts_of k) i []))) 0 ≡ get_or k.buckets (bucket_in (hash_of t)) 0 = ap (λ u. get_or k.buckets (bucket_in (hash_of u)) 0) is in
        omega (arith, some, there, none)

-- the text that stands here is the one
pub seek_found : {A : Type 0} (k : OutTexts A) (t : List ℕ) (i : ℕ) → AreKept k → i < length (texts_of k) → get_or (texts_of k) i [] ≡ t → position (texts_of k) t ≡ Some i
seek_found k t i h l is =
    let n : length (texts_of k) ≡ length k.places.items = texts_length k in
    position_there (texts_of k) t i (λ a b la lb. h.texts.distinct a b (subst (λ m. a < m) n la) (subst (λ m. b < m) n lb)) l is

-- or it is another, and the text is looked for where that one links
pub seek_on : {A : Type 0} (k : OutTexts A) (t : List ℕ) (at left digits next : ℕ) → Seeking k t at left digits → 0 < left → (get_or (texts_of k) (at - 1) [] ≡ t → ⊥)
    → next ≡ link_of (firsts k.places.items) k.ids.items (at - 1) digits → 0 < next → next ≤ length (texts_of k) → Seeking k t next (left - 1) (digits / 2)
seek_on k t at left digits next h p other e q w = record {
  some = q;
  within = w;
  onward = λ i l is. after i is (reached_cases (firsts k.places.items) k.ids.items left (left - 1) digits at (at - 1) i more here (h.onward i l is));
  back = λ first2 second2 i x r.
      let step : next ≡ link_of first2 second2 (at - 1) digits = e ∙ sym (x.kept (at - 1) digits (subst (λ n. 0 < n) e q)) in
      h.back first2 second2 i x (reached_from first2 second2 left (left - 1) digits at (at - 1) i more here (inr (subst (λ n. IsReached first2 second2 (left - 1) (digits / 2) n i) step r)));
}
  where
    more : left ≡ suc (left - 1)
    more = omega (arith, p)

    here : at ≡ suc (at - 1)
    here = omega (arith, h.some)

    after : (i : ℕ) → get_or (texts_of k) i [] ≡ t → (at - 1 ≡ i) ⊎ IsReached (firsts k.places.items) k.ids.items (left - 1) (digits / 2) (link_of (firsts k.places.items) k.ids.items (at - 1) digits) i
        → IsReached (firsts k.places.items) k.ids.items (left - 1) (digits / 2) next i
    after i is (inl y) = absurd (other (ap (λ j. get_or (texts_of k) j []) y ∙ is))
    after i is (inr y) = subst (λ n. IsReached (firsts k.places.items) k.ids.items (left - 1) (digits / 2) n i) (sym e) y

-- where it links to none the text is new
pub seek_none : {A : Type 0} (k : OutTexts A) (t : List ℕ) (at left digits : ℕ) → Seeking k t at left digits → 0 < left → (get_or (texts_of k) (at - 1) [] ≡ t → ⊥)
    → link_of (firsts k.places.items) k.ids.items (at - 1) digits ≡ 0 → position (texts_of k) t ≡ None
seek_none k t at left digits h p other z =
    absent_position (texts_of k) t
    (λ i l is. nowhere i is (reached_cases (firsts k.places.items) k.ids.items left (left - 1) digits at (at - 1) i (omega (arith, p)) (omega (arith, h.some)) (h.onward i l is)))
  where
    nowhere : (i : ℕ) → get_or (texts_of k) i [] ≡ t → (at - 1 ≡ i) ⊎ IsReached (firsts k.places.items) k.ids.items (left - 1) (digits / 2) (link_of (firsts k.places.items) k.ids.items (at - 1) digits) i → ⊥
    nowhere i is (inl y) = other (ap (λ j. get_or (texts_of k) j []) y ∙ is)
    nowhere i is (inr y) =
        let some = reached_some (firsts k.places.items) k.ids.items (left - 1) (digits / 2) (link_of (firsts k.places.items) k.ids.items (at - 1) digits) i y in
        omega (arith, some.1, z)

-- and that link is free for it
pub seek_free : {A : Type 0} (k : OutTexts A) (t : List ℕ) (at left digits : ℕ) → Seeking k t at left digits → k.is_ordered ≡ false → 1 < left
    → link_of (firsts k.places.items) k.ids.items (at - 1) digits ≡ 0 → IsAfter k t (at - 1) digits
seek_free k t at left digits h o p z = record {
  linked = o;
  within = omega (arith, h.some, h.within, texts_length k);
  free = z;
  reaches = λ first2 second2 i x y.
      let last : link_of first2 second2 (at - 1) digits ≡ suc i = y ∙ one i in
      h.back first2 second2 i x (reached_from first2 second2 left (left - 1) digits at (at - 1) i (omega (arith, p)) (omega (arith, h.some))
      (inr (reached_from first2 second2 (left - 1) (left - 2) (digits / 2) (link_of first2 second2 (at - 1) digits) i i (omega (arith, p)) last (inl refl))));
}
  where
    one : (i : ℕ) → i + 1 ≡ suc i
    one i = omega arith

-- where the way ends the text is new
pub seek_end : {A : Type 0} (k : OutTexts A) (t : List ℕ) (at left digits : ℕ) → Seeking k t at left digits → left ≡ 0 → position (texts_of k) t ≡ None
seek_end k t at left digits h z =
    absent_position (texts_of k) t (λ i l is. omega (arith, z, (reached_some (firsts k.places.items) k.ids.items left digits at i (h.onward i l is)).0))
