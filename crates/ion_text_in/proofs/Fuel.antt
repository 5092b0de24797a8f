-- Each piece of a text takes a byte, and so do segments and groups: the number of how many there are at most changes nothing.
use Rattle.std.proofs.Common.{◌≡◌, ℕ, zero, suc, ◌+◌, ◌<◌, ◌≤◌, Bool, true, false, ◌==◌, nat_lt, if◌then◌else◌, List, [], ◌∷◌, ◌++◌, length, Option, Some, None, Result, Ok, Err, refl, ap, subst, ◌∙◌, arith}
use Rattle.std.proofs.lemmas.Bool.{and_parts, ltb-false}
use Rattle.std.proofs.lemmas.List.{length-drop}
use Rattle.ion_meter.specs.declared.fault.Reason.{Reason}
use Rattle.ion_meter.specs.declared.fault.Reason.TheVariants.{ScalarLimit}
use Rattle.ion_meter.specs.Sources.{Cursor, skip}
use Rattle.ion_value.specs.Name.{begins_with}
use Rattle.ion_value.specs.Parts.{refuse, ◌>>=◌, ◌>>◌}
use Rattle.ion_text_in.specs.Limit.{passes}
use Rattle.ion_text_in.specs.Quoted as quoted
use Rattle.ion_text_in.specs.Quoted.{Quote, Piece, char, close, illegal, cut, Hex, number, no_digit, cut_digits, hex_after, piece_at, pieces_for, segment_at, segments_for}
use Rattle.ion_text_in.specs.Lob as lob
use Rattle.ion_text_in.specs.Lob.{group_of, groups_for}
use Rattle.ion_text_in.specs.Scanning.{Spelled, IsQuote, Takes, PieceTakes, EachPieceTakes, pieces, segments, groups, with_groups, PiecesInTurn, SegmentsInTurn, GroupsInTurn}
use Rattle.ion_text_in.proofs.Shrinking.{NoLonger, PieceIs, piece-is, Any, Sized, any-segment, WithinIf, between-within, group-counts}

-- ---- steps that are the same

bind-same : {A B : Type 0} (o w : Result A Reason) (f g : A → Result B Reason) → o ≡ w → ((x : A) → w ≡ Ok x → f x ≡ g x) → (o >>= f) ≡ (w >>= g)
bind-same o (Ok x) f g e more = ap (λ o. o >>= f) e ∙ more x refl
bind-same o (Err reason) f g e more = ap (λ o. o >>= f) e

few-same : (few : Bool) (x y u v : Result (List ℕ × Cursor) Reason) → x ≡ u → (few ≡ false → y ≡ v) → (if few then x else y) ≡ (if few then u else v)
few-same true x y u v ex ey = ex
few-same false x y u v ex ey = ey refl

-- ---- pieces

pub begins-within : (cs bytes : List ℕ) → begins_with cs bytes ≡ true → length cs ≤ length bytes
begins-within [] bytes e = omega arith
begins-within (c ∷ cs) [] e = absurd (cc e)
begins-within (c ∷ cs) (b ∷ bytes) e = let more = begins-within cs bytes (and_parts (c == b) (begins_with cs bytes) e).1 in omega (arith, more)

pub piece-takes : EachPieceTakes
piece-takes q rest is = by (piece_at q rest) (piece-is q rest)
  where
    by : (piece : Piece) → PieceIs q rest piece → PieceTakes rest piece
    by (char bytes taken) all = all.0
    by (close taken) all =
        let there = begins-within q.closer rest all.0 in
        record { some = omega (arith, is.0, all.1); there = omega (arith, there, all.1); few = omega (arith, is.1, all.1) }
    by piece all = tt

shorter : (c : Cursor) (taken : ℕ) → Takes c.rest taken → length (skip taken c).rest < length c.rest
shorter c taken takes = let some = takes.some in let there = takes.there in omega (arith, some, there, length-drop taken c.rest)

with_piece-fuel : (later more : ℕ → Cursor → Spelled) (q : Quote) (limit : Option ℕ) (count : ℕ) (c : Cursor) (piece : Piece) → PieceTakes c.rest piece
    → ((n : ℕ) (d : Cursor) → length d.rest < length c.rest → later n d ≡ more n d)
    → quoted.with_piece later q limit count c piece ≡ quoted.with_piece more q limit count c piece
with_piece-fuel later more q limit count c (char bytes taken) takes equal =
    ap (λ (o : Spelled). refuse (passes limit (count + length bytes)) ScalarLimit >> (o >>= (λ others. Ok (bytes ++ others.0, others.1))))
    (equal (count + length bytes) (skip taken c) (shorter c taken takes))
with_piece-fuel later more q limit count c piece takes equal = refl

pub pieces-fuel : (most more : ℕ) (q : Quote) (limit : Option ℕ) (count : ℕ) (c : Cursor) → IsQuote q → length c.rest < most → length c.rest < more
    → pieces_for most q limit count c ≡ pieces_for more q limit count c
unfolding pieces_for
pieces-fuel zero more q limit count c is le lm = absurd (omega (arith, le))
pieces-fuel (suc most) zero q limit count c is le lm = absurd (omega (arith, lm))
pieces-fuel (suc most) (suc more) q limit count c is le lm =
    with_piece-fuel (λ n d. pieces_for most q limit n d) (λ n d. pieces_for more q limit n d) q limit count c (piece_at q c.rest) (piece-takes q c.rest is)
    (λ n d less. pieces-fuel most more q limit n d is (omega (arith, le, less)) (omega (arith, lm, less)))

-- the first piece, and then the others
pub pieces-first : PiecesInTurn
unfolding pieces_for
pieces-first q limit count c is =
    with_piece-fuel (λ n d. pieces_for (length c.rest) q limit n d) (λ n d. pieces q limit n d) q limit count c (piece_at q c.rest) (piece-takes q c.rest is)
    (λ n d less. pieces-fuel (length c.rest) (suc (length d.rest)) q limit n d is less (omega arith))

-- ---- segments

abbrev ShorterIf : Cursor → Option Cursor → Type 0
ShorterIf c (Some d) = length d.rest < length c.rest
ShorterIf c None = Unit {0}

in_next-shorter : (q : Quote) (c : Cursor) (o : Option Cursor) → IsQuote q → WithinIf c o → ShorterIf c (quoted.in_next q o)
in_next-shorter q c None is w = tt
in_next-shorter q c (Some d) is w = from (begins_with q.closer d.rest) refl
  where
    from : (b : Bool) → begins_with q.closer d.rest ≡ b → ShorterIf c (if b then Some (skip (length q.closer) d) else None)
    from true e = let there = begins-within q.closer d.rest e in let some = is.0 in omega (arith, w, there, some, length-drop (length q.closer) d.rest)
    from false e = tt

next-shorter : (q : Quote) (c : Cursor) (is_long : Bool) → IsQuote q → ShorterIf c (if is_long then quoted.in_next q (quoted.between q.in_clob c) else None)
next-shorter q c true is = in_next-shorter q c (quoted.between q.in_clob c) is (between-within q.in_clob c)
next-shorter q c false is = tt

with_segments-fuel : (later more : Cursor → Spelled) (c : Cursor) (s : List ℕ × Cursor) (o : Option Cursor) → NoLonger c s.1 → ShorterIf s.1 o
    → ((d : Cursor) → length d.rest < length c.rest → later d ≡ more d) → quoted.with_segments later s o ≡ quoted.with_segments more s o
with_segments-fuel later more c s None le short equal = refl
with_segments-fuel later more c s (Some d) le short equal = ap (λ (o : Spelled). o >>= (λ others. Ok (s.0 ++ others.0, others.1))) (equal d (omega (arith, le, short)))

segments-by : (later more : ℕ → Cursor → Spelled) (q : Quote) (limit : Option ℕ) (count : ℕ) (c : Cursor) → IsQuote q
    → ((n : ℕ) (d : Cursor) → length d.rest < length c.rest → later n d ≡ more n d)
    → (segment_at q limit count c >>= (λ s. quoted.with_segments (λ d. later (count + length s.0) d) s (quoted.next_segment q s.1)))
    ≡ (segment_at q limit count c >>= (λ s. quoted.with_segments (λ d. more (count + length s.0) d) s (quoted.next_segment q s.1)))
segments-by later more q limit count c is equal =
    bind-same (segment_at q limit count c) (segment_at q limit count c) _ _ refl
    (λ s e. let sized : length s.0 + length s.1.rest ≤ length c.rest = (subst (λ o. Sized Any c o) e (any-segment q limit count c)).0 in
    with_segments-fuel (λ d. later (count + length s.0) d) (λ d. more (count + length s.0) d) c s (quoted.next_segment q s.1) (omega (arith, sized)) (next-shorter q s.1 q.is_long is)
    (λ d less. equal (count + length s.0) d less))

pub segments-fuel : (most more : ℕ) (q : Quote) (limit : Option ℕ) (count : ℕ) (c : Cursor) → IsQuote q → length c.rest < most → length c.rest < more
    → segments_for most q limit count c ≡ segments_for more q limit count c
unfolding segments_for
segments-fuel zero more q limit count c is le lm = absurd (omega (arith, le))
segments-fuel (suc most) zero q limit count c is le lm = absurd (omega (arith, lm))
segments-fuel (suc most) (suc more) q limit count c is le lm =
    segments-by (λ n d. segments_for most q limit n d) (λ n d. segments_for more q limit n d) q limit count c is
    (λ n d less. segments-fuel most more q limit n d is (omega (arith, le, less)) (omega (arith, lm, less)))

-- the first segment, and then the others
pub segments-first : SegmentsInTurn
unfolding segments_for
segments-first q limit count c is =
    segments-by (λ n d. segments_for (length c.rest) q limit n d) (λ n d. segments q limit n d) q limit count c is
    (λ n d less. segments-fuel (length c.rest) (suc (length d.rest)) q limit n d is less (omega arith))

-- ---- groups

groups-by : (later more : ℕ → Bool → Cursor → Spelled) (limit : Option ℕ) (count : ℕ) (padded : Bool) (c : Cursor)
    → ((n : ℕ) (b : Bool) (d : Cursor) → length d.rest < length c.rest → later n b d ≡ more n b d)
    → with_groups later limit count padded c ≡ with_groups more limit count padded c
groups-by later more limit count padded c equal =
    let g : List ℕ × List ℕ = group_of 4 c.rest in
    let d : Cursor = lob.after_to c g.1 in
    few-same (nat_lt (length g.0) 4) _ _ _ _ refl
    (λ many. let four : 4 ≤ length g.0 = ltb-false (length g.0) 4 many in let all = group-counts 4 c.rest in
    let less : length d.rest < length c.rest = omega (arith, four, all) in
    bind-same (lob.group_bytes padded g.0) (lob.group_bytes padded g.0) _ _ refl
    (λ bytes e. ap (λ (o : Spelled). refuse (passes limit (count + length bytes)) ScalarLimit >> (o >>= (λ others. Ok (bytes ++ others.0, others.1))))
    (equal (count + length bytes) (nat_lt (length bytes) 3) d less)))

pub groups-fuel : (most more : ℕ) (limit : Option ℕ) (count : ℕ) (padded : Bool) (c : Cursor) → length c.rest < most → length c.rest < more
    → groups_for most limit count padded c ≡ groups_for more limit count padded c
unfolding groups_for
groups-fuel zero more limit count padded c le lm = absurd (omega (arith, le))
groups-fuel (suc most) zero limit count padded c le lm = absurd (omega (arith, lm))
groups-fuel (suc most) (suc more) limit count padded c le lm =
    groups-by (λ n b d. groups_for most limit n b d) (λ n b d. groups_for more limit n b d) limit count padded c
    (λ n b d less. groups-fuel most more limit n b d (omega (arith, le, less)) (omega (arith, lm, less)))

-- the first group, and then the others
pub groups-first : GroupsInTurn
unfolding groups_for
groups-first limit count padded c =
    groups-by (λ n b d. groups_for (length c.rest) limit n b d) (λ n b d. groups limit n b d) limit count padded c
    (λ n b d less. groups-fuel (length c.rest) (suc (length d.rest)) limit n b d less (omega arith))
