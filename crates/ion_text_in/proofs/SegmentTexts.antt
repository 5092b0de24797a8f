-- Texts by their segments.
use Rattle.std.proofs.Common.{◌≡◌, ℕ, ◌+◌, Bool, true, false, if◌then◌else◌, List, [], ◌∷◌, ◌++◌, length, Option, Some, None, Ok, Err, refl, sym, ap, ◌∙◌}
use Rattle.std.proofs.lemmas.List.{length-append}
use Rattle.ion_meter.specs.declared.fault.Reason.{Reason}
use Rattle.ion_meter.specs.declared.fault.Reason.TheVariants.{Truncated}
use Rattle.ion_meter.specs.Sources.{Cursor, skip}
use Rattle.ion_value.specs.Name.{begins_with}
use Rattle.ion_value.specs.Parts.{Placed, ◌>>=◌}
use Rattle.ion_text_in.specs.declared.quoted.Quote.{Quote as CodeQuote}
use Rattle.ion_text_in.specs.declared.quoted.Quote.TheVariants as code
use Rattle.ion_text_in.specs.Overrun.{overrun}
use Rattle.ion_text_in.specs.Quoted as quoted
use Rattle.ion_text_in.specs.Quoted.{Quote, segment_at, segments_for, with_segments, text_at}
use Rattle.ion_text_in.specs.Scanning.{Spelled, IsQuote, segments, with_front}
use Rattle.ion_text_in.specs.Quotes.{quote_of}
use Rattle.ion_text_in.specs.Gathered.{with_segment, passed}
use Rattle.ion_text_in.proofs.Fuel.{segments-first}
use Rattle.ion_text_in.proofs.Gathering.{front-front}
use Rattle.ion_text_in.proofs.Segments.{front-ok, front-err}

-- ---- one segment

pub front-none : (o : Spelled) → with_front [] o ≡ o
front-none (Ok x) = refl
front-none (Err reason) = refl

alone : (o : Spelled) → (o >>= (λ s. Ok s)) ≡ o
alone (Ok x) = refl
alone (Err reason) = refl

pub text-first : (q : Quote) (limit : Option ℕ) (c : Cursor) → q.is_long ≡ false → text_at q limit c ≡ segment_at q limit 0 c
unfolding segments_for
text-first q limit c e =
    ap (λ (long : Bool). segment_at q limit 0 c >>= (λ s. with_segments (λ d. segments_for (length c.rest) q limit (0 + length s.0) d) s
    (if long then quoted.in_next q (quoted.between q.in_clob s.1) else None))) e
    ∙ alone (segment_at q limit 0 c)

pub short-text : (q : Quote) (limit : ℕ) (text : List ℕ) (c : Cursor) → q.is_long ≡ false → text ≡ [] → with_segment q limit text c ≡ text_at q (Some limit) c
short-text q limit text c e none =
    ap (λ (l : List ℕ). with_segment q limit l c) none ∙ front-none (segment_at q (Some limit) 0 c) ∙ sym (text-first q (Some limit) c e)

-- ---- segments

-- bytes that were read, and the segments after them
abbrev pub after_text : Quote → ℕ → List ℕ → Cursor → Spelled
after_text q limit text c = with_front text (segments q (Some limit) (length text) c)

abbrev segment-then : Quote → ℕ → List ℕ → Spelled → Spelled
segment-then q limit text o =
    with_front text (o >>= (λ s. with_segments (λ d. segments q (Some limit) (length text + length s.0) d) s (quoted.next_segment q s.1)))

segments-by : (q : Quote) (limit : ℕ) (text : List ℕ) (c : Cursor) → IsQuote q → after_text q limit text c ≡ segment-then q limit text (segment_at q (Some limit) (length text) c)
segments-by q limit text c is = ap (λ (o : Spelled). with_front text o) (segments-first q (Some limit) (length text) c is)

pub long-err : (q : Quote) (limit : ℕ) (text : List ℕ) (c : Cursor) (e : Reason) → IsQuote q → with_segment q limit text c ≡ Err e → after_text q limit text c ≡ Err e
long-err q limit text c e is h =
    segments-by q limit text c is ∙ ap (λ (o : Spelled). segment-then q limit text o) (front-err text (segment_at q (Some limit) (length text) c) e h)

-- what follows a segment, by where the next one begins
segment-next : (q : Quote) (limit : ℕ) (text s : List ℕ) (c d : Cursor) (next : Option Cursor) → IsQuote q → segment_at q (Some limit) (length text) c ≡ Ok (s, d) → quoted.next_segment q d ≡ next
    → after_text q limit text c ≡ with_front text (with_segments (λ k. segments q (Some limit) (length text + length s) k) (s, d) next)
segment-next q limit text s c d next is h e =
    segments-by q limit text c is ∙ ap (λ (o : Spelled). segment-then q limit text o) h
    ∙ ap (λ (o : Option Cursor). with_front text (with_segments (λ k. segments q (Some limit) (length text + length s) k) (s, d) o)) e

pub long-ends : (q : Quote) (limit : ℕ) (text all : List ℕ) (c d : Cursor) → IsQuote q → with_segment q limit text c ≡ Ok (all, d) → quoted.next_segment q d ≡ None
    → after_text q limit text c ≡ Ok (all, d)
long-ends q limit text all c d is h e =
    let got = front-ok text all d (segment_at q (Some limit) (length text) c) h in
    segment-next q limit text got.0 c d None is got.1 e ∙ ap (λ (l : List ℕ). Ok (l, d)) got.2

pub long-goes : (q : Quote) (limit : ℕ) (text all : List ℕ) (c d k : Cursor) → IsQuote q → with_segment q limit text c ≡ Ok (all, d) → quoted.next_segment q d ≡ Some k
    → after_text q limit text c ≡ after_text q limit all k
long-goes q limit text all c d k is h e =
    let got = front-ok text all d (segment_at q (Some limit) (length text) c) h in
    segment-next q limit text got.0 c d (Some k) is got.1 e
    ∙ front-front text got.0 (segments q (Some limit) (length text + length got.0) k)
    ∙ ap (λ (n : ℕ). with_front (text ++ got.0) (segments q (Some limit) n k)) (sym (length-append text got.0))
    ∙ ap (λ (l : List ℕ). after_text q limit l k) got.2

-- ---- the next segment

between-passed : (in_clob : Bool) (c : Cursor) → quoted.between in_clob c ≡ quoted.where_read (passed in_clob c)
between-passed true c = refl
between-passed false c = refl

next-passed : (q : Quote) (c : Cursor) (o : Placed Cursor) → q.is_long ≡ true → passed q.in_clob c ≡ o → quoted.next_segment q c ≡ quoted.in_next q (quoted.where_read o)
next-passed q c o long e =
    ap (λ (is_long : Bool). if is_long then quoted.in_next q (quoted.between q.in_clob c) else None) long
    ∙ ap (λ (next : Option Cursor). quoted.in_next q next) (between-passed q.in_clob c ∙ ap quoted.where_read e)

pub next-cut : (q : Quote) (c d : Cursor) (start : ℕ) → q.is_long ≡ true → passed q.in_clob c ≡ overrun (Some start) d → quoted.next_segment q c ≡ None
next-cut q c d start long e = next-passed q c (Err (Truncated, start)) long e

abbrev three : List ℕ
three = 39 ∷ 39 ∷ 39 ∷ []

long-closer : (q : CodeQuote) → (quote_of q).is_long ≡ true → (quote_of q).closer ≡ three
long-closer code.Symbol e = absurd (cc e)
long-closer code.Short e = absurd (cc e)
long-closer code.ShortClob e = absurd (cc e)
long-closer code.Long e = refl
long-closer code.LongClob e = refl

pub next-by : (q : CodeQuote) (c d : Cursor) (test : Bool) → (quote_of q).is_long ≡ true → passed (quote_of q).in_clob c ≡ overrun None d → begins_with three d.rest ≡ test
    → quoted.next_segment (quote_of q) c ≡ (if test then Some (skip 3 d) else None)
next-by q c d test long e begins =
    next-passed (quote_of q) c (Ok d) long e
    ∙ ap (λ (l : List ℕ). if begins_with l d.rest then Some (skip (length l) d) else None) (long-closer q long)
    ∙ ap (λ (b : Bool). if b then Some (skip 3 d) else None) begins
