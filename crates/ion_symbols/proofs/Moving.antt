-- Slots that are added after others: their parts stand further on.
use Rattle.std.proofs.Common.{◌≡◌, ℕ, suc, ◌+◌, ◌-◌, ◌*◌, Bool, true, false, if◌then◌else◌, List, [], ◌∷◌, ◌++◌, length, take, drop, map, Option, Some, None, refl, ap, sym, subst, ◌∙◌, arith, length-append}
use Rattle.std.proofs.lemmas.List.{map-append}
use Rattle.ion_meter.specs.Counts.{Counts, Grows, Shrinks}
use Rattle.ion_value.specs.declared.quoting.Quoting.{Quoting}
use Rattle.ion_symbols.specs.Table.{slots_cost}
use Rattle.ion_symbols.specs.Kept.{AreMarked, kept_slot, kept_slots, Tiles, moved, IsUndone}
use Rattle.ion_symbols.specs.declared.slots.Part.{Part}
use Rattle.ion_symbols.proofs.Keeping.{kept_more, kept_append, kept_cost, marked_append}

-- ---- the parts tile the longer texts

-- parts that tile some texts, and others that tile what follows
pub tiles_append : (from : ℕ) (ps qs : List Part) (mid end : ℕ) → Tiles from ps mid → Tiles mid qs end → Tiles from (ps ++ qs) end
tiles_append from [] qs mid end h k = subst (λ n. Tiles n qs end) (sym h) k
tiles_append from (p ∷ ps) qs mid end h k = (h.0, (h.1.0, (h.1.1.0, tiles_append p.to ps qs mid end h.1.1.1 k)))

-- moved parts tile the moved texts
tiles_moved : (base from : ℕ) (qs : List Part) (end : ℕ) → Tiles from qs end → Tiles (base + from) (map (moved base) qs) (base + end)
tiles_moved base from [] end h = ap (λ n. base + n) h
tiles_moved base from (q ∷ qs) end h =
    (ap (λ n. base + n) h.0, (omega (arith, h.1.0), ((λ u. ap (λ n. base + n) (h.1.1.0 u)), tiles_moved base q.to qs end h.1.1.1)))

-- what is left of two texts from a place in the second one
drop_after : (texts more : List ℕ) (n : ℕ) → drop (length texts + n) (texts ++ more) ≡ drop n more
drop_after [] more n = let e : 0 + n ≡ n = omega arith in ap (λ k. drop k more) e
drop_after (t ∷ texts) more n =
    let e : suc (length texts) + n ≡ suc (length texts + n) = omega arith in
    ap (λ k. drop k (t ∷ (texts ++ more))) e ∙ drop_after texts more n

-- the text of a moved part, and of its slot
same_text : (texts more : List ℕ) (a b : ℕ) →
    take ((length texts + b) - (length texts + a)) (drop (length texts + a) (texts ++ more)) ≡ take (b - a) (drop a more)
same_text texts more a b =
    let e : (length texts + b) - (length texts + a) ≡ b - a = omega arith in
    ap (λ k. take k (drop (length texts + a) (texts ++ more))) e ∙ ap (take (b - a)) (drop_after texts more a)

same_slot : (texts more : List ℕ) (a b : ℕ) (k : Bool) →
    (if k then Some (take ((length texts + b) - (length texts + a)) (drop (length texts + a) (texts ++ more))) else None) ≡
    (if k then Some (take (b - a) (drop a more)) else None)
same_slot texts more a b true = ap Some (same_text texts more a b)
same_slot texts more a b false = refl

-- slots are the same where their parts and texts stand further on
kept_moved : (texts more : List ℕ) (qs : List Part) → kept_slots (texts ++ more) (map (moved (length texts)) qs) ≡ kept_slots more qs
kept_moved texts more [] = refl
kept_moved texts more (q ∷ qs) =
    let a : kept_slot (texts ++ more) (moved (length texts) q) ≡ kept_slot more q = same_slot texts more q.from q.to q.known in
    let b : kept_slots (texts ++ more) (map (moved (length texts)) qs) ≡ kept_slots more qs = kept_moved texts more qs in
    cc

-- ---- what an addition leaves

-- the parts tile the texts
pub appended_tiles : (t1 t2 t : List ℕ) (ps qs ns : List Part) (base : ℕ) → Tiles 0 ps (length t1) → Tiles 0 qs (length t2) → base ≡ length t1 →
    t ≡ t1 ++ t2 → ns ≡ ps ++ map (moved base) qs → Tiles 0 ns (length t)
appended_tiles t1 t2 t ps qs ns base h k b e f =
    let n : length t1 + length t2 ≡ length t = sym (ap length e ∙ length-append t1 t2) in
    let z : length t1 + 0 ≡ length t1 = omega arith in
    let m : Tiles (length t1) (map (moved (length t1)) qs) (length t1 + length t2) =
    subst (λ i. Tiles i (map (moved (length t1)) qs) (length t1 + length t2)) z (tiles_moved (length t1) 0 qs (length t2) k) in
    let a : Tiles 0 (ps ++ map (moved (length t1)) qs) (length t1 + length t2) =
    tiles_append 0 ps (map (moved (length t1)) qs) (length t1) (length t1 + length t2) h m in
    subst (λ i. Tiles 0 ns i) n
    (subst (λ xs. Tiles 0 xs (length t1 + length t2)) (sym (f ∙ ap (λ i. ps ++ map (moved i) qs) b)) a)

-- the slots are those of both, in order
pub appended_kept : (t1 t2 t : List ℕ) (ps qs ns : List Part) (base : ℕ) → Tiles 0 ps (length t1) → base ≡ length t1 → t ≡ t1 ++ t2 →
    ns ≡ ps ++ map (moved base) qs → kept_slots t ns ≡ kept_slots t1 ps ++ kept_slots t2 qs
appended_kept t1 t2 t ps qs ns base h b e f =
    ap (kept_slots t) f
    ∙ (ap (λ xs. kept_slots xs (ps ++ map (moved base) qs)) e
    ∙ (ap (λ i. kept_slots (t1 ++ t2) (ps ++ map (moved i) qs)) b
    ∙ (kept_append (t1 ++ t2) ps (map (moved (length t1)) qs)
    ∙ (ap (λ xs. xs ++ kept_slots (t1 ++ t2) (map (moved (length t1)) qs)) (kept_more t1 t2 0 ps (length t1) h (omega arith))
    ∙ ap (λ xs. kept_slots t1 ps ++ xs) (kept_moved t1 t2 qs)))))

moved_marks : (base : ℕ) (qs : List Part) → map (λ (p : Part). p.quoting) (map (moved base) qs) ≡ map (λ (p : Part). p.quoting) qs
moved_marks base [] = refl
moved_marks base (q ∷ qs) = ap (λ (l : List Quoting). q.quoting ∷ l) (moved_marks base qs)

-- and each part says how its text is written
pub appended_marked : (t1 t2 t : List ℕ) (ps qs ns : List Part) (base : ℕ) → Tiles 0 ps (length t1) → AreMarked t1 ps → AreMarked t2 qs → base ≡ length t1 →
    t ≡ t1 ++ t2 → ns ≡ ps ++ map (moved base) qs → AreMarked t ns
appended_marked t1 t2 t ps qs ns base h j k b e f =
    marked_append t1 t2 t ps qs ns j k
    (ap (map (λ (p : Part). p.quoting)) f
    ∙ (map-append (λ (p : Part). p.quoting) ps (map (moved base) qs)
    ∙ ap (λ (l : List Quoting). map (λ (p : Part). p.quoting) ps ++ l) (moved_marks base qs)))
    (appended_kept t1 t2 t ps qs ns base h b e f)

-- ---- what it costs

-- 16 a part, and the texts
pub full_cost : (texts : List ℕ) (ps : List Part) (now : List (Option (List ℕ))) → Tiles 0 ps (length texts) → kept_slots texts ps ≡ now →
    slots_cost now ≡ 16 * length ps + length texts
full_cost texts ps now h e =
    let k : slots_cost (kept_slots texts ps) + 0 ≡ 16 * length ps + length texts = kept_cost texts 0 ps (length texts) h (omega arith) in
    let v : slots_cost (kept_slots texts ps) ≡ slots_cost now = ap slots_cost e in
    omega (arith, k, v)

-- the texts and then the parts are added
pub grown : (a b c : Counts) (texts parts cost : ℕ) → cost ≡ 16 * parts + texts → Grows a b texts → Grows b c (16 * parts) → Grows a c cost
grown a b c texts parts cost e h k =
    record { held = omega (arith, e, h.held, k.held); peak = omega (arith, e, h.held, h.peak, k.held, k.peak); refused = k.refused ∙ h.refused }

-- the texts are added, the parts are refused, and the texts are given back
pub given_back : (a b c d : Counts) (texts parts cost : ℕ) → cost ≡ 16 * parts + texts → Grows a b texts → IsUndone b c (16 * parts) → Shrinks c d texts →
    IsUndone a d cost
given_back a b c d texts parts cost e h k s = record {
  held = omega (arith, h.held, k.held, s.held);
  peak = omega (arith, e, h.held, h.peak, k.held, k.peak, s.peak);
  rises = omega (arith, h.peak, k.rises, s.peak);
  refused = omega (arith, h.refused, k.refused, s.refused);
}
