-- The texts of an output as they are kept: their bytes, and where each stands.
use Rattle.std.proofs.Common.{◌≡◌, ℕ, ◌+◌, ◌-◌, ◌*◌, ◌<◌, ◌≤◌, min, List, [], ◌∷◌, ◌++◌, length, take, drop, get_or, All, refl, ap, sym, subst, ◌∙◌, arith, length-take, length-drop}
use Rattle.std.proofs.lemmas.List.{drop-append-le, take-append-le, length-map, map-append, get_or-map, take_rest, drop_min, drop-map}
use Rattle.std.proofs.lemmas.List.Elements.{All-nil, All-cons, All-take, All-drop}
use Rattle.std.proofs.Math.Seq.{drop-append_seam, take-length}
use Rattle.ion_symbols.specs.declared.ordered.Place.{Place}
use Rattle.ion_symbols.specs.Output.{texts_cost}
use Rattle.ion_symbols.specs.Ordered.{place_text, texts_in, ordered_texts, Follow, From, Ordered}

-- places that follow one another end at or after their begin
pub follow_within : (from : ℕ) (ps : List Place) (end : ℕ) → Follow from ps end → from ≤ end
follow_within from [] end h = omega (arith, h)
follow_within from (p ∷ ps) end h = let e : p.to ≤ end = follow_within p.to ps end h.1.1 in omega (arith, h.1.0, e)

-- each of them ends within the end
follow_each : (from : ℕ) (ps : List Place) (end : ℕ) → Follow from ps end → All (λ p. (p.from ≤ p.to) × (p.to ≤ end)) ps
follow_each from [] end h = All-nil (λ (p : Place). (p.from ≤ p.to) × (p.to ≤ end))
follow_each from (p ∷ ps) end h =
    let w : p.to ≤ end = follow_within p.to ps end h.1.1 in
    let f : p.from ≡ from = h.0 in
    let t : from ≤ p.to = h.1.0 in
    All-cons (λ (p : Place). (p.from ≤ p.to) × (p.to ≤ end)) p ps (omega (arith, f, t), w) (follow_each p.to ps end h.1.1)

-- they stand within the bytes that they end with
pub follow_from : (bytes : List ℕ) (ps : List Place) → Follow 0 ps (length bytes) → From bytes ps
follow_from bytes ps h = follow_each 0 ps (length bytes) h

-- the id at each place of the order is that of a place of a text
pub kept_id : (bytes : List ℕ) (places : List Place) (order : List ℕ) (texts : List (List ℕ)) → Ordered bytes places order → ordered_texts bytes places order ≡ texts → (k : ℕ) → k < length texts → get_or order k 0 < length places
kept_id bytes places order texts h e k l =
    let in' : k < length order = simp length-map at (subst (λ ts. k < length ts) (sym e) l) in
    simp length-map at (h.orders.each k 0 in')

-- which stands within the bytes
pub kept_place : (bytes : List ℕ) (places : List Place) (order : List ℕ) (texts : List (List ℕ)) → Ordered bytes places order → ordered_texts bytes places order ≡ texts → (k : ℕ) → k < length texts → (d : Place) → ((get_or places (get_or order k 0) d).from ≤ (get_or places (get_or order k 0) d).to) × ((get_or places (get_or order k 0) d).to ≤ length bytes)
kept_place bytes places order texts h e k l d = h.within (get_or order k 0) d (kept_id bytes places order texts h e k l)

-- and its text is the one in the order
pub kept_text : (bytes : List ℕ) (places : List Place) (order : List ℕ) (texts : List (List ℕ)) → Ordered bytes places order → ordered_texts bytes places order ≡ texts → (k : ℕ) → k < length texts → (d : Place) → get_or texts k [] ≡ place_text bytes (get_or places (get_or order k 0) d)
kept_text bytes places order texts h e k l d =
    let in' : k < length order = simp length-map at (subst (λ ts. k < length ts) (sym e) l) in
    ap (λ ts. get_or ts k []) (sym e)
    ∙ (get_or-map (λ i. get_or (texts_in bytes places) i []) order k 0 [] in'
    ∙ get_or-map (place_text bytes) places (get_or order k 0) d [] (kept_id bytes places order texts h e k l))

-- a part of bytes stays as it is where bytes are added after
part_same : (bytes more : List ℕ) (a b : ℕ) → a ≤ b → b ≤ length bytes → take (b - a) (drop a (bytes ++ more)) ≡ take (b - a) (drop a bytes)
part_same bytes more a b h k =
    ap (take (b - a)) (drop-append-le a bytes more (omega (arith, h, k)))
    ∙ take-append-le (b - a) (drop a bytes) more (simp length-drop (omega (arith, h, k)))

-- the texts stay as they are where bytes are added after
pub texts_more : (bytes more : List ℕ) (from : ℕ) (ps : List Place) (end : ℕ) → Follow from ps end → end ≤ length bytes → texts_in (bytes ++ more) ps ≡ texts_in bytes ps
texts_more bytes more from [] end h k = refl
texts_more bytes more from (p ∷ ps) end h k =
    let w : p.to ≤ end = follow_within p.to ps end h.1.1 in
    let s : place_text (bytes ++ more) p ≡ place_text bytes p = part_same bytes more p.from p.to (omega (arith, h.0, h.1.0)) (omega (arith, w, k)) in
    let r : texts_in (bytes ++ more) ps ≡ texts_in bytes ps = texts_more bytes more p.to ps end h.1.1 k in
    cc

-- what texts cost that stand one after another
pub texts_cost-follow : (bytes : List ℕ) (from : ℕ) (ps : List Place) (end : ℕ) → Follow from ps end → end ≤ length bytes → texts_cost (texts_in bytes ps) + from ≡ 16 * length ps + end
texts_cost-follow bytes from [] end h k = omega (arith, h)
texts_cost-follow bytes from (p ∷ ps) end h k =
    let w : p.to ≤ end = follow_within p.to ps end h.1.1 in
    let f : p.from ≡ from = h.0 in
    let b : from ≤ p.to = h.1.0 in
    let r : texts_cost (texts_in bytes ps) + p.to ≡ 16 * length ps + end = texts_cost-follow bytes p.to ps end h.1.1 k in
    let t : length (place_text bytes p) ≡ p.to - p.from = simp (length-take, length-drop) (omega (arith, f, b, w, k)) in
    omega (arith, f, b, r, t)

-- the cost of the texts that are kept
pub kept_cost : (bytes : List ℕ) (places : List Place) → Follow 0 places (length bytes) → texts_cost (texts_in bytes places) ≡ 16 * length places + length bytes
kept_cost bytes places h = let e = texts_cost-follow bytes 0 places (length bytes) h (omega arith) in omega (arith, e)

-- a place more, where the last one ends
pub follow_push : (from : ℕ) (ps : List Place) (end : ℕ) (p : Place) → Follow from ps end → p.from ≡ end → end ≤ p.to → Follow from (ps ++ p ∷ []) p.to
follow_push from [] end p h a b = (a ∙ sym h, (omega (arith, h, b), refl))
follow_push from (q ∷ ps) end p h a b = (h.0, (h.1.0, follow_push q.to ps end p h.1.1 a b))

-- the text of a place that stands for the bytes added
last_text : (bytes t : List ℕ) (p : Place) → p.from ≡ length bytes → p.to ≡ length bytes + length t → place_text (bytes ++ t) p ≡ t
last_text bytes t p a b =
    let n : p.to - p.from ≡ length t = omega (arith, a, b) in
    ap (λ k. take k (drop p.from (bytes ++ t))) n
    ∙ (ap (λ k. take (length t) (drop k (bytes ++ t))) a
    ∙ (ap (take (length t)) (drop-append_seam bytes t) ∙ take-length t))

-- the texts with one more after them
pub texts_push : (bytes t : List ℕ) (places : List Place) (p : Place) → Follow 0 places (length bytes) → p.from ≡ length bytes → p.to ≡ length bytes + length t → texts_in (bytes ++ t) (places ++ p ∷ []) ≡ texts_in bytes places ++ t ∷ []
texts_push bytes t places p h a b =
    map-append (place_text (bytes ++ t)) places (p ∷ [])
    ∙ (let s : texts_in (bytes ++ t) places ≡ texts_in bytes places = texts_more bytes t 0 places (length bytes) h (omega arith) in
    let l : place_text (bytes ++ t) p ≡ t = last_text bytes t p a b in
    cc)

-- they cost that one's length and 16 more
pub cost_push : (texts : List (List ℕ)) (t : List ℕ) → texts_cost (texts ++ t ∷ []) ≡ texts_cost texts + (16 + length t)
cost_push [] t = omega arith
cost_push (s ∷ ss) t = let r = cost_push ss t in omega (arith, r)

-- the texts of the places from one on
rest_texts : (bytes : List ℕ) (places : List Place) (n : ℕ) → texts_in bytes (take (length places - min n (length places)) (drop (min n (length places)) places)) ≡ drop n (texts_in bytes places)
rest_texts bytes places n = ap (texts_in bytes) (take_rest places (min n (length places)) ∙ drop_min n places) ∙ sym (drop-map (place_text bytes) n places)

-- the places from one on are those of the texts from it on
pub texts_since : (bytes bytes2 : List ℕ) (places places2 : List Place) (texts : List (List ℕ)) (n k first : ℕ) → bytes2 ≡ bytes → places2 ≡ places → texts_in bytes places ≡ texts → k ≡ n → first ≡ min k (length places2) → texts_in bytes2 (take (length places2 - first) (drop first places2)) ≡ drop n texts
texts_since bytes bytes2 places places2 texts n k first a b c d e = rw (e, d, a, b, ← c) (rest_texts bytes places n)

-- and they stand within the bytes
pub from_since : (bytes bytes2 : List ℕ) (places places2 : List Place) (m first : ℕ) → bytes2 ≡ bytes → places2 ≡ places → Follow 0 places (length bytes) → From bytes2 (take m (drop first places2))
from_since bytes bytes2 places places2 m first a b h =
    let from : From bytes2 places2 = subst (λ bs. From bs places2) (sym a) (subst (From bytes) (sym b) (follow_from bytes places h)) in
    let is = λ (p : Place). (p.from ≤ p.to) × (p.to ≤ length bytes2) in
    All-take is m (drop first places2) (All-drop is first places2 from)
