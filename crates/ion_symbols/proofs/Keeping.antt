-- Slots that are kept as texts and parts.
use Rattle.std.proofs.Common.{◌≡◌, ℕ, zero, suc, ◌+◌, ◌-◌, ◌*◌, ◌<◌, ◌≤◌, Bool, true, false, not, ◌||◌, if◌then◌else◌, List, [], ◌∷◌, ◌++◌, length, map, take, drop, slice_get, slice_index_or, Option, Some, None, refl, ap, sym, subst, ◌∙◌, arith, length-take, length-drop, length-append}
use Rattle.std.proofs.lemmas.List.{drop-append-le, map-append, take-append-le}
use Rattle.std.proofs.lemmas.Bool.{false≢true}
use Rattle.std.proofs.Math.Seq.{drop-append_seam, take-length}
use Rattle.ion_value.specs.Name.{quoting_of, is_plain, is_simple, is_own_in_quotes, IsQuotedAs}
use Rattle.ion_value.specs.Digits.{all_are}
use Rattle.ion_value.specs.declared.quoting.Quoting.{Quoting}
use Rattle.ion_value.specs.declared.quoting.Quoting.TheVariants.{Bare, Quoted, Any}
use Rattle.ion_symbols.specs.Table.{slots_cost, text_length}
use Rattle.ion_symbols.specs.Kept.{kept_slot, kept_slots, slot_quoting, AreMarked, Tiles}
use Rattle.ion_symbols.specs.declared.slots.Part.{Part}

pub tiles_within : (from : ℕ) (ps : List Part) (len : ℕ) → Tiles from ps len → from ≤ len
tiles_within from [] len h = omega (arith, h)
tiles_within from (p ∷ ps) len h = let e : p.to ≤ len = tiles_within p.to ps len h.1.1.1 in omega (arith, h.1.0, e)

length_between : (texts : List ℕ) (a b : ℕ) → a ≤ b → b ≤ length texts → length (take (b - a) (drop a texts)) ≡ b - a
length_between texts a b h k = simp (length-take, length-drop) (omega (arith, h, k))

by_known : (texts : List ℕ) (a b : ℕ) (k : Bool) → a ≤ b → b ≤ length texts → (k ≡ false → b ≡ a) → text_length (if k then Some (take (b - a) (drop a texts)) else None) ≡ b - a
by_known texts a b true h k e = length_between texts a b h k
by_known texts a b false h k e = let d : b ≡ a = e refl in omega (arith, d)

pub kept_cost : (texts : List ℕ) (from : ℕ) (ps : List Part) (len : ℕ) → Tiles from ps len → len ≤ length texts → slots_cost (kept_slots texts ps) + from ≡ 16 * length ps + len
kept_cost texts from [] len h k = omega (arith, h)
kept_cost texts from (p ∷ ps) len h k =
    let w : p.to ≤ len = tiles_within p.to ps len h.1.1.1 in
    let f : p.from ≡ from = h.0 in
    let b : from ≤ p.to = h.1.0 in
    let r : slots_cost (kept_slots texts ps) + p.to ≡ 16 * length ps + len = kept_cost texts p.to ps len h.1.1.1 k in
    let t : text_length (kept_slot texts p) ≡ p.to - p.from = by_known texts p.from p.to p.known (omega (arith, f, b)) (omega (arith, w, k)) (λ u. h.1.1.0 u ∙ sym f) in
    omega (arith, f, b, r, t)

pub tile_at : (d : Part) (from : ℕ) (ps : List Part) (len i : ℕ) → Tiles from ps len → i < length ps → ((slice_index_or ps i d).from ≤ (slice_index_or ps i d).to) × ((slice_index_or ps i d).to ≤ len)
tile_at d from [] len i h k = (omega (arith, k), omega (arith, k))
tile_at d from (p ∷ ps) len zero h k = let w : p.to ≤ len = tiles_within p.to ps len h.1.1.1 in (omega (arith, h.0, h.1.0), w)
tile_at d from (p ∷ ps) len (suc i) h k = tile_at d p.to ps len i h.1.1.1 (omega (arith, k))

pub tiles_push : (from : ℕ) (ps : List Part) (len : ℕ) (p : Part) → Tiles from ps len → p.from ≡ len → len ≤ p.to → (p.known ≡ false → p.to ≡ len) → Tiles from (ps ++ p ∷ []) p.to
tiles_push from [] len p h a b c = (a ∙ sym h, (omega (arith, h, b), ((λ u. c u ∙ sym h), refl)))
tiles_push from (q ∷ ps) len p h a b c = (h.0, (h.1.0, (h.1.1.0, tiles_push q.to ps len p h.1.1.1 a b c)))

part_same : (texts more : List ℕ) (a b : ℕ) → a ≤ b → b ≤ length texts → take (b - a) (drop a (texts ++ more)) ≡ take (b - a) (drop a texts)
part_same texts more a b h k =
    ap (take (b - a)) (drop-append-le a texts more (omega (arith, h, k)))
    ∙ take-append-le (b - a) (drop a texts) more (simp length-drop (omega (arith, h, k)))

slot_same : (texts more : List ℕ) (a b : ℕ) (k : Bool) → a ≤ b → b ≤ length texts → (if k then Some (take (b - a) (drop a (texts ++ more))) else None) ≡ (if k then Some (take (b - a) (drop a texts)) else None)
slot_same texts more a b true h k = ap Some (part_same texts more a b h k)
slot_same texts more a b false h k = refl

pub kept_more : (texts more : List ℕ) (from : ℕ) (ps : List Part) (len : ℕ) → Tiles from ps len → len ≤ length texts → kept_slots (texts ++ more) ps ≡ kept_slots texts ps
kept_more texts more from [] len h k = refl
kept_more texts more from (p ∷ ps) len h k =
    let w : p.to ≤ len = tiles_within p.to ps len h.1.1.1 in
    let s : kept_slot (texts ++ more) p ≡ kept_slot texts p = slot_same texts more p.from p.to p.known (omega (arith, h.0, h.1.0)) (omega (arith, w, k)) in
    let r : kept_slots (texts ++ more) ps ≡ kept_slots texts ps = kept_more texts more p.to ps len h.1.1.1 k in
    cc

pub kept_append : (texts : List ℕ) (ps qs : List Part) → kept_slots texts (ps ++ qs) ≡ kept_slots texts ps ++ kept_slots texts qs
kept_append texts [] qs = refl
kept_append texts (p ∷ ps) qs = ap (λ x. kept_slot texts p ∷ x) (kept_append texts ps qs)

last_part : (texts t : List ℕ) → take ((length texts + length t) - length texts) (drop (length texts) (texts ++ t)) ≡ t
last_part texts t =
    let n : (length texts + length t) - length texts ≡ length t = omega arith in
    ap (take ((length texts + length t) - length texts)) (drop-append_seam texts t) ∙ (ap (λ k. take k t) n ∙ take-length t)

-- a slot with a text more
pub kept_push : (texts t : List ℕ) (ps : List Part) (m : Quoting) → Tiles 0 ps (length texts) → kept_slots (texts ++ t) (ps ++ record { from = length texts; to = length texts + length t; known = true; quoting = m } ∷ []) ≡ kept_slots texts ps ++ Some t ∷ []
kept_push texts t ps m h =
    kept_append (texts ++ t) ps (record { from = length texts; to = length texts + length t; known = true; quoting = m } ∷ [])
    ∙ (let a = kept_more texts t 0 ps (length texts) h (omega arith) in let b = last_part texts t in cc)

pub cost_append : (xs ys : List (Option (List ℕ))) → slots_cost (xs ++ ys) ≡ slots_cost xs + slots_cost ys
cost_append [] ys = omega arith
cost_append (x ∷ xs) ys = let r = cost_append xs ys in omega (arith, r)

-- a slot more
pub cost_push : (xs : List (Option (List ℕ))) (x : Option (List ℕ)) → slots_cost (xs ++ x ∷ []) ≡ slots_cost xs + (16 + text_length x)
cost_push xs x = let r = cost_append xs (x ∷ []) in omega (arith, r)

pub kept_count : (texts : List ℕ) (ps : List Part) → length (kept_slots texts ps) ≡ length ps
kept_count texts [] = refl
kept_count texts (p ∷ ps) = ap suc (kept_count texts ps)

-- what a push of a text leaves: the parts tile the longer texts, and there is one slot more
pub pushed_tiles : (texts t texts2 : List ℕ) (ps ps2 : List Part) (from : ℕ) (m : Quoting) → Tiles 0 ps (length texts) → from ≡ length texts → ps2 ≡ ps ++ record { from = from; to = from + length t; known = true; quoting = m } ∷ [] → texts2 ≡ texts ++ t → Tiles 0 ps2 (length texts2)
pushed_tiles texts t texts2 ps ps2 from m h f p q =
    let n : from + length t ≡ length texts2 = sym (ap length q ∙ (length-append texts t ∙ ap (λ k. k + length t) (sym f))) in
    subst (λ k. Tiles 0 ps2 k) n
    (subst (λ xs. Tiles 0 xs (from + length t)) (sym p)
    (tiles_push 0 ps (length texts) (record { from = from; to = from + length t; known = true; quoting = m }) h f (omega (arith, f)) (λ u. absurd (no u))))
  where
    no : true ≡ false → ⊥
    no e = false≢true (sym e)

pub pushed_kept : (texts t texts2 : List ℕ) (ps ps2 : List Part) (from : ℕ) (m : Quoting) → Tiles 0 ps (length texts) → from ≡ length texts → ps2 ≡ ps ++ record { from = from; to = from + length t; known = true; quoting = m } ∷ [] → texts2 ≡ texts ++ t → kept_slots texts2 ps2 ≡ kept_slots texts ps ++ Some t ∷ []
pushed_kept texts t texts2 ps ps2 from m h f p q = let k = kept_push texts t ps m h in rw (p, q, f) k

-- a slot without one more
pub kept_push_none : (texts : List ℕ) (ps ps2 : List Part) (from : ℕ) → ps2 ≡ ps ++ record { from = from; to = from; known = false; quoting = Any } ∷ [] → kept_slots texts ps2 ≡ kept_slots texts ps ++ None ∷ []
kept_push_none texts ps ps2 from e = ap (kept_slots texts) e ∙ kept_append texts ps (record { from = from; to = from; known = false; quoting = Any } ∷ [])

-- ---- how texts are written

-- slots more, whose parts say it too
pub marked_append : (texts1 texts2 texts : List ℕ) (ps qs ns : List Part) → AreMarked texts1 ps → AreMarked texts2 qs
    → map (λ (p : Part). p.quoting) ns ≡ map (λ (p : Part). p.quoting) ps ++ map (λ (p : Part). p.quoting) qs
    → kept_slots texts ns ≡ kept_slots texts1 ps ++ kept_slots texts2 qs → AreMarked texts ns
marked_append texts1 texts2 texts ps qs ns h k e f =
    e
    ∙ (ap (λ (l : List Quoting). l ++ map (λ (p : Part). p.quoting) qs) h
    ∙ (ap (λ (l : List Quoting). map slot_quoting (kept_slots texts1 ps) ++ l) k
    ∙ (sym (map-append slot_quoting (kept_slots texts1 ps) (kept_slots texts2 qs)) ∙ ap (map slot_quoting) (sym f))))

-- a slot more
pub marked_push : (texts1 texts : List ℕ) (ps ns : List Part) (p : Part) (slot : Option (List ℕ)) → AreMarked texts1 ps → ns ≡ ps ++ p ∷ []
    → kept_slots texts ns ≡ kept_slots texts1 ps ++ slot ∷ [] → p.quoting ≡ slot_quoting slot → AreMarked texts ns
marked_push texts1 texts ps ns p slot h e f m =
    ap (map (λ (q : Part). q.quoting)) e
    ∙ (map-append (λ (q : Part). q.quoting) ps (p ∷ [])
    ∙ (ap (λ (l : List Quoting). l ++ p.quoting ∷ []) h
    ∙ (ap (λ (b : Quoting). map slot_quoting (kept_slots texts1 ps) ++ b ∷ []) m
    ∙ (sym (map-append slot_quoting (kept_slots texts1 ps) (slot ∷ [])) ∙ ap (map slot_quoting) (sym f)))))

-- what the quoting of a text says of it
quoted_by : (t : List ℕ) (s p q : Bool) → is_simple t ≡ s → is_plain t ≡ p → all_are is_own_in_quotes t ≡ q
    → IsQuotedAs (if s then Bare else (if p || not q then Any else Quoted)) t
quoted_by t true p q a b c = a
quoted_by t false true q a b c = tt
quoted_by t false false true a b c = (b, c)
quoted_by t false false false a b c = tt

pub is_quoted : (t : List ℕ) → IsQuotedAs (quoting_of t) t
is_quoted t = quoted_by t (is_simple t) (is_plain t) (all_are is_own_in_quotes t) refl refl refl

-- the text of a slot with one
pub known_told : (t : List ℕ) (k : Bool) (f : Quoting) → f ≡ slot_quoting (if k then Some t else None) → k ≡ true → ((if k then Some t else None) ≡ Some t) × IsQuotedAs f t
known_told t true f e u = (refl, subst (λ g. IsQuotedAs g t) (sym e) (is_quoted t))
known_told t false f e u = absurd (false≢true u)

-- one that is bare has a text
pub bare_told : (t : List ℕ) (k : Bool) → Bare ≡ slot_quoting (if k then Some t else None) → ((if k then Some t else None) ≡ Some t) × IsQuotedAs Bare t
bare_told t true e = known_told t true Bare e refl
bare_told t false e = absurd (cc e)

-- what stands past the last part
abbrev pub no_part : Part
no_part = record { from = 0; to = 0; known = false; quoting = Bare }

-- the part that stands at an index, and its slot
pub part_at : (texts : List ℕ) (ps : List Part) (i : ℕ) (d : Part) → AreMarked texts ps → i < length ps
    → (slice_get (kept_slots texts ps) i ≡ Some (kept_slot texts (slice_index_or ps i d))) × ((slice_index_or ps i d).quoting ≡ slot_quoting (kept_slot texts (slice_index_or ps i d)))
part_at texts [] i d h k = absurd (omega (arith, k))
part_at texts (p ∷ ps) zero d h k = (refl, ap (λ (l : List Quoting). slice_index_or l 0 Any) h)
part_at texts (p ∷ ps) (suc i) d h k = part_at texts ps i d (ap (λ (l : List Quoting). drop 1 l) h) (omega (arith, k))

pub record StandsAt (texts : List ℕ) (now : List (Option (List ℕ))) (i : ℕ) (p : Part) : Type 0 where
  pub begins : p.from ≤ p.to
  pub ends : p.to ≤ length texts
  pub slot : slice_get now i ≡ Some (kept_slot texts p)
  pub written : p.quoting ≡ slot_quoting (kept_slot texts p)

pub stands_at : (texts : List ℕ) (ps lent : List Part) (now : List (Option (List ℕ))) (i : ℕ) → Tiles 0 ps (length texts) × AreMarked texts ps
    → kept_slots texts ps ≡ now → lent ≡ ps → i < length lent → StandsAt texts now i (slice_index_or lent i no_part)
stands_at texts ps lent now i h v e w =
    let n : i < length ps = subst (λ (qs : List Part). i < length qs) e w in
    let t = tile_at no_part 0 ps (length texts) i h.0 n in
    let m = part_at texts ps i no_part h.1 n in
    subst (λ (qs : List Part). StandsAt texts now i (slice_index_or qs i no_part)) (sym e)
    (record { begins = t.0; ends = t.1; slot = ap (λ (ss : List (Option (List ℕ))). slice_get ss i) (sym v) ∙ m.0; written = m.1 })
