-- Texts that are put in order of bytes, one after another.
use Rattle.std.proofs.Common.{◌≡◌, ℕ, ◌+◌, ◌<◌, ◌≤◌, true, List, [], length, take, get_or, slice_get, Some, refl, ap, sym, subst, subst₂, ◌∙◌, arith}
use Rattle.std.specs.List.{insert}
use Rattle.std.proofs.lemmas.Bool.{true≢false}
use Rattle.std.proofs.lemmas.List.{length-map, length-take, length-take-le, get_or-take, take-map, take_more, take_all}
use Rattle.std.proofs.lemmas.List.Elements.{All-take}
use Rattle.std.proofs.lemmas.Option.{slice_get_within, get_or_from_slice_get}
use Rattle.ion_meter.specs.Entries.{Entries}
use Rattle.ion_symbols.specs.declared.ordered.Place.{Place}
use Rattle.ion_symbols.specs.declared.out_texts.OutTexts.{OutTexts}
use Rattle.ion_symbols.specs.Output.{Belongs}
use Rattle.ion_symbols.specs.Ordered.{place_text, texts_in, in_order, ordered_texts, Orders, Ordered}
use Rattle.ion_symbols.specs.OutTexts.{texts_of, AreDistinct, AreKept}
use Rattle.ion_symbols.proofs.OutputTexts.{follow_from}
use Rattle.ion_symbols.proofs.Orders.{has_order, orders_push}
use Rattle.ion_symbols.proofs.Placing.{text_there}
use Rattle.ion_symbols.proofs.Seeking.{texts_length}

-- ---- the place of one among those before it

-- those before it are in order
pub among_ordered : (bytes bytes2 : List ℕ) (places places2 : List Place) (order order2 : List ℕ) (count : ℕ) → AreDistinct bytes places → count < length places
    → Orders (take count (texts_in bytes places)) (take count order) → bytes2 ≡ bytes → places2 ≡ places → order2 ≡ order → Ordered bytes2 (take count places2) (take count order2)
among_ordered bytes bytes2 places places2 order order2 count h l o a b c = rw (a, b, c) (record {
  within = All-take (λ (p : Place). (p.from ≤ p.to) × (p.to ≤ length bytes)) count places (follow_from bytes places h.follow);
  orders = subst (λ ts. Orders ts (take count order)) (take-map (place_text bytes) count places) o;
  few = let n = length-take-le count places (omega arith) in omega (arith, n, l, h.few);
})

-- they are as many ids
pub among_long : (bytes : List ℕ) (places : List Place) (order : List ℕ) (count : ℕ) → count < length places → Orders (take count (texts_in bytes places)) (take count order) → count ≤ length order
among_long bytes places order count l o =
    let n : length (take count (texts_in bytes places)) ≡ count = length-take-le count (texts_in bytes places) (omega (arith, length-map places (place_text bytes), l)) in
    let m : length (take count order) ≡ count = o.long ∙ n in
    omega (arith, m, length-take count order)

-- and are what is searched
pub among_texts : (bytes bytes2 : List ℕ) (places places2 : List Place) (order order2 : List ℕ) (texts : List (List ℕ)) (count : ℕ) → bytes2 ≡ bytes → places2 ≡ places → order2 ≡ order
    → texts ≡ ordered_texts bytes2 (take count places2) (take count order2) → texts ≡ in_order (take count (texts_in bytes places)) (take count order)
among_texts bytes bytes2 places places2 order order2 texts count a b c e =
    e ∙ rw (a, b, c) (ap (λ ts. in_order ts (take count order)) (sym (take-map (place_text bytes) count places)))

-- it is none of them
pub among_none : (bytes bytes2 : List ℕ) (places places2 : List Place) (order : List ℕ) (texts : List (List ℕ)) (count place : ℕ) (d : Place) → AreDistinct bytes places → count < length places
    → Orders (take count (texts_in bytes places)) (take count order) → texts ≡ in_order (take count (texts_in bytes places)) (take count order) → bytes2 ≡ bytes → places2 ≡ places
    → slice_get texts place ≡ Some (place_text bytes2 (get_or places2 count d)) → ⊥
among_none bytes bytes2 places places2 order texts count place d h l o e a b found =
    let ts : List (List ℕ) = texts_in bytes places in
    let is : place_text bytes2 (get_or places2 count d) ≡ get_or ts count [] = text_there bytes bytes2 places places2 count d a b l in
    let n : length ts ≡ length places = length-map places (place_text bytes) in
    let m : length (take count ts) ≡ count = length-take-le count ts (omega (arith, n, l)) in
    let s : slice_get (in_order (take count ts) (take count order)) place ≡ Some (get_or ts count []) = subst₂ (λ us u. slice_get us place ≡ Some u) e is found in
    let j : ℕ = get_or (take count order) place 0 in
    let there : slice_get (take count ts) j ≡ Some (get_or ts count []) = has_order (take count ts) (take count order) (get_or ts count []) place o s in
    let w : j < length (take count ts) = slice_get_within (take count ts) j (get_or ts count []) there in
    let before : j < count = omega (arith, w, m) in
    let same : get_or ts j [] ≡ get_or ts count [] = sym (get_or-take count ts j [] before) ∙ get_or_from_slice_get (take count ts) j (get_or ts count []) [] there in
    let one : j ≡ count = h.distinct j count (omega (arith, before, l)) l same in
    omega (arith, one, before)

-- and belongs where it was looked for
pub among_belongs : (bytes bytes2 : List ℕ) (places places2 : List Place) (order : List ℕ) (texts : List (List ℕ)) (count place : ℕ) (d : Place) → count < length places
    → texts ≡ in_order (take count (texts_in bytes places)) (take count order) → bytes2 ≡ bytes → places2 ≡ places → Belongs texts (place_text bytes2 (get_or places2 count d)) place
    → Belongs (in_order (take count (texts_in bytes places)) (take count order)) (get_or (texts_in bytes places) count []) place
among_belongs bytes bytes2 places places2 order texts count place d l e a b h = subst₂ (λ us u. Belongs us u place) e (text_there bytes bytes2 places places2 count d a b l) h

-- ---- all of them

-- the first of them are in order, and nothing else changed
pub record Putting {A : Type 0} (old now : OutTexts A) (count : ℕ) : Type 0 where
  pub rest : now ≡ record old { ids = now.ids }
  pub cost : now.ids.cost ≡ old.ids.cost
  pub long : length now.ids.items ≡ length old.ids.items
  pub within : count ≤ length now.places.items
  pub order : Orders (take count (texts_of now)) (take count now.ids.items)

-- they are still different
pub putting_distinct : {A : Type 0} (old now : OutTexts A) (count : ℕ) → AreKept old → Putting old now count → AreDistinct now.bytes now.places.items
putting_distinct {A} old now count h p = subst (λ (k : OutTexts A). AreDistinct k.bytes k.places.items) (sym p.rest) h.texts

-- as many ids as places
pub putting_long : {A : Type 0} (old now : OutTexts A) (count : ℕ) → AreKept old → Putting old now count → length now.ids.items ≡ length now.places.items
putting_long {A} old now count h p = p.long ∙ (h.long ∙ sym (ap (λ (k : OutTexts A). length k.places.items) p.rest))

-- none at first
pub putting_none : {A : Type 0} (k : OutTexts A) → Putting k k 0
putting_none k = record {
  rest = refl;
  cost = refl;
  long = refl;
  within = omega arith;
  order = record { each = λ i d l. absurd (omega (arith, l)); whole = λ i l. absurd (omega (arith, l)); ascend = tt; long = refl };
}

-- one more
pub putting_more : {A : Type 0} (old now : OutTexts A) (ids : Entries ℕ) (count place : ℕ) → Putting old now count → count < length now.places.items
    → Belongs (in_order (take count (texts_of now)) (take count now.ids.items)) (get_or (texts_of now) count []) place
    → take (count + 1) ids.items ≡ insert (take count now.ids.items) place count → length ids.items ≡ length now.ids.items → ids.cost ≡ now.ids.cost
    → Putting old (record now { ids = ids }) (count + 1)
putting_more {A} old now ids count place p l b e n c = record {
  rest = ap (λ (k : OutTexts A). record k { ids = ids }) p.rest;
  cost = c ∙ p.cost;
  long = n ∙ p.long;
  within = omega (arith, l);
  order =
      let w : count < length (texts_of now) = omega (arith, l, texts_length now) in
      let m : length (take count (texts_of now)) ≡ count = length-take-le count (texts_of now) (omega (arith, w)) in
      subst₂ Orders (sym (take_more (texts_of now) count [] w)) (ap (insert (take count now.ids.items) place) m ∙ sym e)
      (orders_push (take count (texts_of now)) (take count now.ids.items) (get_or (texts_of now) count []) place p.order b);
}

-- and all
pub putting_all : {A : Type 0} (old now : OutTexts A) (count : ℕ) → AreKept old → Putting old now count → length now.places.items ≤ count → AreKept (record now { is_ordered = true })
putting_all {A} old now count h p l = record {
  texts = putting_distinct old now count h p;
  place_cost = ap (λ (k : OutTexts A). k.places.cost) p.rest ∙ h.place_cost;
  id_cost = p.cost ∙ h.id_cost;
  long = putting_long old now count h p;
  many = ap (λ (k : OutTexts A). length k.buckets) p.rest ∙ h.many;
  fronts = λ b m. subst (λ (k : OutTexts A). get_or k.buckets b 0 ≤ length k.places.items) (sym p.rest) (h.fronts b m);
  order = λ _.
      subst₂ Orders (take_all count (texts_of now) (omega (arith, l, texts_length now))) (take_all count now.ids.items (omega (arith, l, putting_long old now count h p))) p.order;
  links = λ y. absurd (true≢false y);
}
