-- A segment by its pieces.
use Rattle.std.proofs.Common.{◌≡◌, ℕ, Bool, true, false, not, ◌||◌, List, [], ◌∷◌, ◌++◌, length, drop, Option, Some, Ok, Err, refl, sym, ap, ◌∙◌}
use Rattle.std.specs.Str.{is_utf8}
use Rattle.ion_meter.specs.declared.fault.Reason.{Reason}
use Rattle.ion_meter.specs.declared.fault.Reason.TheVariants.{BadText}
use Rattle.ion_meter.specs.Sources.{Cursor}
use Rattle.ion_value.specs.Parts.{refuse, ◌>>=◌, ◌>>◌}
use Rattle.ion_text_in.specs.Quoted.{Quote, segment_at}
use Rattle.ion_text_in.specs.Scanning.{Spelled, pieces, with_front}
use Rattle.ion_text_in.specs.Gathered.{onward, with_segment}

-- ---- bytes before what is spelled

pub front-err : (xs : List ℕ) (o : Spelled) (e : Reason) → with_front xs o ≡ Err e → o ≡ Err e
front-err xs (Ok x) e h = absurd (cc h)
front-err xs (Err r) e h = cc h

pub front-ok : (xs ys : List ℕ) (d : Cursor) (o : Spelled) → with_front xs o ≡ Ok (ys, d) → (s : List ℕ) × (o ≡ Ok (s, d)) × (xs ++ s ≡ ys)
front-ok xs ys d (Ok x) h =
    let both : (xs ++ x.0, x.1) ≡ (ys, d) = cc h in
    (x.0, ap (λ (k : Cursor). Ok (x.0, k)) (ap (λ (p : List ℕ × Cursor). p.1) both), ap (λ (p : List ℕ × Cursor). p.0) both)
front-ok xs ys d (Err r) h = absurd (cc h)

drop-front : (xs ys : List ℕ) → drop (length xs) (xs ++ ys) ≡ ys
drop-front [] ys = refl
drop-front (x ∷ xs) ys = drop-front xs ys

-- ---- the test of a segment

tested : Quote → Spelled → Spelled
tested q o = o >>= (λ s. refuse (not (q.in_clob || is_utf8 s.0)) BadText >> Ok s)

by-pieces : (q : Quote) (limit : Option ℕ) (count : ℕ) (c : Cursor) → segment_at q limit count c ≡ tested q (pieces q limit count c)
unfolding segment_at tested
by-pieces q limit count c = refl

tested-by : (q : Quote) (s : List ℕ) (d : Cursor) (test : Bool) → (q.in_clob || is_utf8 s) ≡ test → tested q (Ok (s, d)) ≡ (refuse (not test) BadText >> Ok (s, d))
unfolding tested
tested-by q s d test e = ap (λ (b : Bool). refuse (not b) BadText >> Ok (s, d)) e

pub segment-err : (q : Quote) (limit : ℕ) (text : List ℕ) (c : Cursor) (e : Reason) → onward q limit text c ≡ Err e → with_segment q limit text c ≡ Err e
unfolding tested
segment-err q limit text c e h =
    ap (λ (o : Spelled). with_front text o)
    (by-pieces q (Some limit) (length text) c ∙ ap (λ (o : Spelled). tested q o) (front-err text (pieces q (Some limit) (length text) c) e h))

-- what stands after the bytes that were there
segment-as : (q : Quote) (limit : ℕ) (text all : List ℕ) (c d : Cursor) (test : Bool) → onward q limit text c ≡ Ok (all, d) → (q.in_clob || is_utf8 (drop (length text) all)) ≡ test
    → with_segment q limit text c ≡ with_front text (refuse (not test) BadText >> Ok (drop (length text) all, d))
segment-as q limit text all c d test h e =
    let got = front-ok text all d (pieces q (Some limit) (length text) c) h in
    let same : got.0 ≡ drop (length text) all = sym (drop-front text got.0) ∙ ap (λ (l : List ℕ). drop (length text) l) got.2 in
    ap (λ (o : Spelled). with_front text o)
    (by-pieces q (Some limit) (length text) c ∙ ap (λ (o : Spelled). tested q o) (got.1 ∙ ap (λ (l : List ℕ). Ok (l, d)) same)
    ∙ tested-by q (drop (length text) all) d test e)

pub segment-bad : (q : Quote) (limit : ℕ) (text all : List ℕ) (c d : Cursor) → onward q limit text c ≡ Ok (all, d) → (q.in_clob || is_utf8 (drop (length text) all)) ≡ false
    → with_segment q limit text c ≡ Err BadText
segment-bad q limit text all c d h e = segment-as q limit text all c d false h e

pub segment-good : (q : Quote) (limit : ℕ) (text all : List ℕ) (c d : Cursor) → onward q limit text c ≡ Ok (all, d) → (q.in_clob || is_utf8 (drop (length text) all)) ≡ true
    → with_segment q limit text c ≡ Ok (all, d)
segment-good q limit text all c d h e =
    let got = front-ok text all d (pieces q (Some limit) (length text) c) h in
    let back : text ++ drop (length text) all ≡ all =
    ap (λ (l : List ℕ). text ++ l) (ap (λ (l : List ℕ). drop (length text) l) (sym got.2) ∙ drop-front text got.0) ∙ got.2 in
    segment-as q limit text all c d true h e ∙ ap (λ (l : List ℕ). Ok (l, d)) back
