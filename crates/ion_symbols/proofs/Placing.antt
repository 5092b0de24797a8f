-- Where texts stand among bytes, also where one of them links to another.
use Rattle.std.proofs.Common.{◌≡◌, ℕ, zero, suc, ◌-◌, ◌%◌, ◌<◌, ◌≤◌, List, [], ◌∷◌, ◌++◌, length, take, drop, map, get_or, set, refl, ap, sym, subst, ◌∙◌, arith}
use Rattle.std.proofs.lemmas.List.{get_or-map, length-map, map-append, map-set}
use Rattle.std.proofs.lemmas.Simd.{map-map}
use Rattle.ion_symbols.specs.declared.ordered.Place.{Place}
use Rattle.ion_symbols.specs.Ordered.{place_text, texts_in, Follow}
use Rattle.ion_symbols.specs.OutTexts.{firsts, link_of}
use Rattle.ion_symbols.proofs.OutputTexts.{follow_from}
use Rattle.ion_symbols.proofs.Linking.{link_even, link_odd}

-- ---- one text

-- it stands within the bytes
pub text_bounds : (bytes bytes2 : List ℕ) (places places2 : List Place) (i : ℕ) (d : Place) → Follow 0 places (length bytes) → bytes2 ≡ bytes → places2 ≡ places → i < length places
    → ((get_or places2 i d).from ≤ (get_or places2 i d).to) × ((get_or places2 i d).to ≤ length bytes2)
text_bounds bytes bytes2 places places2 i d h a b l = rw (a, b) (follow_from bytes places h i d l)

-- its bytes
pub text_there : (bytes bytes2 : List ℕ) (places places2 : List Place) (i : ℕ) (d : Place) → bytes2 ≡ bytes → places2 ≡ places → i < length places
    → place_text bytes2 (get_or places2 i d) ≡ get_or (texts_in bytes places) i []
text_there bytes bytes2 places places2 i d a b l = rw (a, b) (sym (get_or-map (place_text bytes) places i d [] l))

-- its first link
pub first_there : (places places2 : List Place) (i : ℕ) (d : Place) → places2 ≡ places → i < length places → (get_or places2 i d).next ≡ get_or (firsts places) i 0
first_there places places2 i d b l = rw b (sym (get_or-map (λ (p : Place). p.next) places i d 0 l))

-- its link by a digit that is 0
pub link_first : (places places2 : List Place) (second : List ℕ) (i digits : ℕ) (d : Place) → places2 ≡ places → i < length places → digits % 2 ≡ 0
    → (get_or places2 i d).next ≡ link_of (firsts places) second i digits
link_first places places2 second i digits d b l e = first_there places places2 i d b l ∙ sym (link_even (firsts places) second i digits e)

-- and by one that is 1
pub link_second : (first second second2 : List ℕ) (i digits : ℕ) → second2 ≡ second → digits % 2 ≡ 1 → get_or second2 i 0 ≡ link_of first second i digits
link_second first second second2 i digits b e = ap (λ is. get_or is i 0) b ∙ sym (link_odd first second i digits e)

-- ---- another link

-- where texts begin and end
abbrev span : Place → ℕ × ℕ
span p = (p.from, p.to)

abbrev pub spans : List Place → List (ℕ × ℕ)
spans places = map (λ p. (p.from, p.to)) places

-- the text between
abbrev spanned : List ℕ → ℕ × ℕ → List ℕ
spanned bytes s = take (s.1 - s.0) (drop s.0 bytes)

-- they are as many
pub length-spans : (ps qs : List Place) → spans qs ≡ spans ps → length qs ≡ length ps
length-spans ps qs e = sym (length-map qs span) ∙ (ap length e ∙ length-map ps span)

-- of the same texts
pub texts-spans : (bytes : List ℕ) (ps qs : List Place) → spans qs ≡ spans ps → texts_in bytes qs ≡ texts_in bytes ps
texts-spans bytes ps qs e = sym (map-map (spanned bytes) span qs) ∙ (ap (map (spanned bytes)) e ∙ map-map (spanned bytes) span ps)

-- one after another
pub follow-spans : (from : ℕ) (ps qs : List Place) (end : ℕ) → spans qs ≡ spans ps → Follow from ps end → Follow from qs end
follow-spans from [] [] end e h = h
follow-spans from [] (q ∷ qs) end e h = absurd (cc e)
follow-spans from (p ∷ ps) [] end e h = absurd (cc e)
follow-spans from (p ∷ ps) (q ∷ qs) end e h =
    let begins : q.from ≡ p.from = ap (λ (l : List (ℕ × ℕ)). (get_or l 0 (0, 0)).0) e in
    let ends : q.to ≡ p.to = ap (λ (l : List (ℕ × ℕ)). (get_or l 0 (0, 0)).1) e in
    let rest : spans qs ≡ spans ps = ap (λ (l : List (ℕ × ℕ)). drop 1 l) e in
    (begins ∙ h.0, (subst (λ n. from ≤ n) (sym ends) h.1.0, subst (λ n. Follow n qs end) (sym ends) (follow-spans p.to ps qs end rest h.1.1)))

-- a place that is set to itself with another link
spans-set : (ps : List Place) (at next : ℕ) (d : Place) → at < length ps → spans (set ps at (record { from = (get_or ps at d).from; to = (get_or ps at d).to; next = next })) ≡ spans ps
spans-set [] at next d l = absurd (omega (arith, l))
spans-set (p ∷ ps) zero next d l = refl
spans-set (p ∷ ps) (suc at) next d l = ap (λ ss. span p ∷ ss) (spans-set ps at next d (omega (arith, l)))

-- so is one that was read
pub spans_linked : (ps ps2 ps3 : List Place) (at next : ℕ) (d : Place) → at < length ps → ps2 ≡ ps → ps3 ≡ set ps at (record { from = (get_or ps2 at d).from; to = (get_or ps2 at d).to; next = next })
    → spans ps3 ≡ spans ps
spans_linked ps ps2 ps3 at next d l e f =
    ap spans f
    ∙ (ap (λ (qs : List Place). spans (set ps at (record { from = (get_or qs at d).from; to = (get_or qs at d).to; next = next }))) e ∙ spans-set ps at next d l)

-- its first link is that one
pub firsts_linked : (ps ps3 : List Place) (at next : ℕ) (q : Place) → ps3 ≡ set ps at q → q.next ≡ next → firsts ps3 ≡ set (firsts ps) at next
firsts_linked ps ps3 at next q e n = ap firsts e ∙ (map-set (λ (p : Place). p.next) ps at q ∙ ap (set (firsts ps) at) n)

-- a text that is put after the others has no first link
pub firsts_push : (ps ps2 : List Place) (p : Place) → ps2 ≡ ps ++ p ∷ [] → p.next ≡ 0 → firsts ps2 ≡ firsts ps ++ 0 ∷ []
firsts_push ps ps2 p e z = ap firsts e ∙ (map-append (λ (p : Place). p.next) ps (p ∷ []) ∙ ap (λ n. firsts ps ++ n ∷ []) z)
