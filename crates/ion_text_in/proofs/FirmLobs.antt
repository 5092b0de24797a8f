-- A lob in a line is the same whatever follows the line.
use Rattle.std.proofs.Common.{◌≡◌, ℕ, zero, suc, ◌+◌, ◌-◌, ◌<◌, ◌≤◌, Bool, true, false, not, ◌&&◌, ◌==◌, nat_lt, if◌then◌else◌, List, [], ◌∷◌, ◌++◌, length, drop, inr, Option, Result, Ok, Err, refl, sym, ap, ap₂, subst, ◌∙◌, arith}
use Rattle.std.proofs.lemmas.Bool.{and_parts, not-false, eqb-true, ltb-true, ltb-false}
use Rattle.std.proofs.lemmas.List.{length-append}
use Rattle.ion_meter.specs.declared.fault.Reason.{Reason}
use Rattle.ion_meter.specs.declared.fault.Reason.TheVariants.{Truncated, BadLob, ScalarLimit}
use Rattle.ion_meter.specs.Sources.{Cursor, skip}
use Rattle.ion_value.specs.Digits.{first_is}
use Rattle.ion_value.specs.Name.{begins_with}
use Rattle.ion_value.specs.Parts.{refuse, ◌>>=◌, ◌>>◌}
use Rattle.ion_value.specs.Value as value
use Rattle.ion_value.specs.Value.{Scalar, SymbolAt}
use Rattle.ion_value.proofs.WentWell.{passed}
use Rattle.ion_text_in.specs.Blanks.{is_white}
use Rattle.ion_text_in.specs.Limit.{passes}
use Rattle.ion_text_in.specs.Lob as lob
use Rattle.ion_text_in.specs.Lob.{group_of, groups_for, lob_at}
use Rattle.ion_text_in.specs.Meaning.{at}
use Rattle.ion_text_in.specs.Places.{run_of, after_run}
use Rattle.ion_text_in.specs.Quoted as quoted
use Rattle.ion_text_in.specs.Quoted.{Quote, long_quote, short_quote, text_at}
use Rattle.ion_text_in.specs.Scanning.{IsQuote, Spelled, with_front}
use Rattle.ion_text_in.proofs.FirmTexts.{Always, Stays, NoNext, lines-some, stays-from, stays-shown, stays-as, stays-passed, stays-chosen, quotes-none, text-stays, white-leads, white-less}
use Rattle.ion_text_in.proofs.Lines.{Line, Lines, Leads, NoLf, begins-less, line-some, line-tail, lines-line, lines-next, drop-none, leads-then, leads-skip, followed, skip-followed, begins-same, after-stays}
use Rattle.ion_text_in.proofs.Shrinking.{group-counts}

-- closing braces are two
record IsClosed (c d : Cursor) : Type 0 where
  more : List ℕ
  rest : c.rest ≡ 125 ∷ 125 ∷ more
  after : d ≡ skip 2 c

closed-is : (c d : Cursor) → lob.closed_at c ≡ Ok d → IsClosed c d
closed-is c d e = by c.rest refl e
  where
    one : (b : Bool) → ◌>>◌ {A = Unit {0}} {B = Cursor} {E = Reason} (if b then Err Truncated else Err BadLob) (Ok (skip 2 c)) ≡ Ok d → ⊥
    one true e = cc e
    one false e = cc e

    by : (rest : List ℕ) → c.rest ≡ rest → (lob.braces rest >> Ok (skip 2 c)) ≡ Ok d → IsClosed c d
    by [] is e = absurd (cc e)
    by (b ∷ []) is e = absurd (one (b == 125) e)
    by (b ∷ k ∷ more) is e =
        let parts = passed (not (b == 125 && k == 125)) BadLob (Ok (skip 2 c)) d e in
        let both = and_parts (b == 125) (k == 125) (not-false (b == 125 && k == 125) parts.0) in
        let same : skip 2 c ≡ d = cc parts.1 in
        record { more = more; rest = is ∙ ap₂ (λ (b k : ℕ). b ∷ k ∷ more) (eqb-true b 125 both.0) (eqb-true k 125 both.1); after = sym same }

-- four characters: their bytes, and what is read after them
abbrev pub four : (ℕ → Bool → Cursor → Spelled) → Option ℕ → ℕ → Cursor → List ℕ → Spelled
four read limit count d bytes = refuse (passes limit (count + length bytes)) ScalarLimit >> with_front bytes (read (count + length bytes) (nat_lt (length bytes) 3) d)

-- a group that is taken off, and the others
abbrev pub of_group : (ℕ → Bool → Cursor → Spelled) → Option ℕ → ℕ → Bool → List ℕ → Cursor → Spelled
of_group read limit count padded group d = if nat_lt (length group) 4 then lob.last_group group d else (lob.group_bytes padded group >>= (λ bytes. four read limit count d bytes))

module _ (z : List ℕ) where
  closed-stays : (c d : Cursor) → Line c.rest → lob.closed_at c ≡ Ok d → (lob.closed_at (followed z c) ≡ Ok (followed z d)) × Leads c d
  closed-stays c d l e =
      let is = closed-is c d e in
      let line : Line is.more = line-tail 125 is.more (line-tail 125 (125 ∷ is.more) (subst Line is.rest l) (λ e. omega (arith, e))) (λ e. omega (arith, e)) in
      let less : 2 < length c.rest = omega (arith, ap length is.rest, line-some is.more line) in (
        ap (λ (rest : List ℕ). lob.closed_at (at c.place (rest ++ z))) is.rest
            ∙ sym (ap {B = Result Cursor Reason} (λ (d : Cursor). Ok (followed z d)) (is.after ∙ ap (λ (rest : List ℕ). skip 2 (at c.place rest)) is.rest)),
        subst (λ (d : Cursor). Leads c d) (sym is.after) (leads-skip 2 c l less),
      )

  -- what is given with the cursor
  with-stays : {A : Type 0} (a : A) (c : Cursor) (o w : Result Cursor Reason) → ((d : Cursor) → o ≡ Ok d → (w ≡ Ok (followed z d)) × Leads c d)
      → Stays z {A = A} c (o >>= (λ d. Ok (a, d))) (w >>= (λ d. Ok (a, d)))
  with-stays {A} a c (Ok d) w each = let on = each d refl in (λ _. ap {B = Result (A × Cursor) Reason} (λ (w : Result Cursor Reason). w >>= (λ d. Ok (a, d))) on.0, on.1)
  with-stays a c (Err why) w each = tt

  -- ---- groups

  group-by : (b : ℕ) (bytes : List ℕ) (skips ends : Bool) (x y u v : List ℕ × List ℕ) → (0 < length x.1 → u ≡ (x.0, x.1 ++ z)) → (0 < length y.1 → v ≡ (y.0, y.1 ++ z))
      → 0 < length (elim skips as (λ _. List ℕ × List ℕ) [ true ↦ x | false ↦ elim ends as (λ _. List ℕ × List ℕ) [ true ↦ ([], b ∷ bytes) | false ↦ (b ∷ y.0, y.1) ] ]).1
      → (elim skips as (λ _. List ℕ × List ℕ) [ true ↦ u | false ↦ elim ends as (λ _. List ℕ × List ℕ) [ true ↦ ([], b ∷ (bytes ++ z)) | false ↦ (b ∷ v.0, v.1) ] ])
      ≡ (
        (elim skips as (λ _. List ℕ × List ℕ) [ true ↦ x | false ↦ elim ends as (λ _. List ℕ × List ℕ) [ true ↦ ([], b ∷ bytes) | false ↦ (b ∷ y.0, y.1) ] ]).0,
        (elim skips as (λ _. List ℕ × List ℕ) [ true ↦ x | false ↦ elim ends as (λ _. List ℕ × List ℕ) [ true ↦ ([], b ∷ bytes) | false ↦ (b ∷ y.0, y.1) ] ]).1 ++ z,
      )
  group-by b bytes true ends x y u v ex ey some = ex some
  group-by b bytes false true x y u v ex ey some = refl
  group-by b bytes false false x y u v ex ey some = ap (λ (v : List ℕ × List ℕ). (b ∷ v.0, v.1)) (ey some)

  group-same : (n : ℕ) (bytes : List ℕ) → 0 < length (group_of n bytes).1 → group_of n (bytes ++ z) ≡ ((group_of n bytes).0, (group_of n bytes).1 ++ z)
  unfolding group_of
  group-same zero bytes some = refl
  group-same (suc n) [] some = absurd (omega (arith, some))
  group-same (suc n) (b ∷ bytes) some =
      group-by b bytes (is_white b) (b == 125) (group_of (suc n) bytes) (group_of n bytes) (group_of (suc n) (bytes ++ z)) (group_of n (bytes ++ z))
      (λ some. group-same (suc n) bytes some) (λ some. group-same n bytes some) some

  line-by : (b : ℕ) (bytes : List ℕ) (skips ends : Bool) (x y : List ℕ × List ℕ) → Line (b ∷ bytes) → (0 < length x.1 → Line x.1) → (0 < length y.1 → Line y.1)
      → 0 < length (elim skips as (λ _. List ℕ × List ℕ) [ true ↦ x | false ↦ elim ends as (λ _. List ℕ × List ℕ) [ true ↦ ([], b ∷ bytes) | false ↦ (b ∷ y.0, y.1) ] ]).1
      → Line (elim skips as (λ _. List ℕ × List ℕ) [ true ↦ x | false ↦ elim ends as (λ _. List ℕ × List ℕ) [ true ↦ ([], b ∷ bytes) | false ↦ (b ∷ y.0, y.1) ] ]).1
  line-by b bytes true ends x y l lx ly some = lx some
  line-by b bytes false true x y l lx ly some = l
  line-by b bytes false false x y l lx ly some = ly some

  group-line : (n : ℕ) (bytes : List ℕ) → Lines bytes → 0 < length (group_of n bytes).1 → Line (group_of n bytes).1
  unfolding group_of
  group-line zero bytes ls some = lines-some bytes ls some
  group-line (suc n) [] ls some = absurd (omega (arith, some))
  group-line (suc n) (b ∷ bytes) ls some =
      line-by b bytes (is_white b) (b == 125) (group_of (suc n) bytes) (group_of n bytes) (lines-line b bytes ls)
      (λ some. group-line (suc n) bytes (lines-next b bytes ls) some) (λ some. group-line n bytes (lines-next b bytes ls) some) some

  to-followed : (c : Cursor) (rest : List ℕ) → lob.after_to (followed z c) (rest ++ z) ≡ followed z (lob.after_to c rest)
  to-followed c rest =
      let same : length (c.rest ++ z) - length (rest ++ z) ≡ length c.rest - length rest = omega (arith, length-append c.rest z, length-append rest z) in
      ap (λ (n : ℕ). at (c.place + n) (rest ++ z)) same

  to-leads : (c : Cursor) (rest : List ℕ) → Line rest → length rest ≤ length c.rest → Leads c (lob.after_to c rest)
  to-leads c rest l le = record { line = l; total = omega (arith, le) }

  last-stays : (group : List ℕ) (c : Cursor) → Line c.rest → Stays z {A = List ℕ} c (lob.last_group group c) (lob.last_group group (followed z c))
  last-stays [] c l = with-stays [] c (lob.closed_at c) (lob.closed_at (followed z c)) (λ d e. closed-stays c d l e)
  last-stays (b ∷ group) c l = by (lob.closed_at c)
    where
      by : (o : Result Cursor Reason) → Stays z {A = List ℕ} c (o >> Err BadLob) (lob.last_group (b ∷ group) (followed z c))
      by (Ok d) = tt
      by (Err why) = tt

  last-ends : (group : List ℕ) (c : Cursor) → c.rest ≡ [] → lob.last_group group c ≡ Err Truncated
  last-ends [] c none = ap {B = Spelled} (λ (rest : List ℕ). (lob.braces rest >> Ok (skip 2 c)) >>= (λ d. Ok ([], d))) none
  last-ends (b ∷ group) c none = ap {B = Spelled} (λ (rest : List ℕ). (lob.braces rest >> Ok (skip 2 c)) >> Err BadLob) none

  abbrev StaysEach : (ℕ → Bool → Cursor → Spelled) → (ℕ → Bool → Cursor → Spelled) → Type 0
  StaysEach read more = (n : ℕ) (b : Bool) (d : Cursor) → Line d.rest → Stays z {A = List ℕ} d (read n b d) (more n b (followed z d))

  abbrev EndsNever : (ℕ → Bool → Cursor → Spelled) → Type 0
  EndsNever read = (n : ℕ) (b : Bool) (d : Cursor) → d.rest ≡ [] → (why : Reason) × (read n b d ≡ Err why)

  group-stays : (read more : ℕ → Bool → Cursor → Spelled) (limit : Option ℕ) (count : ℕ) (padded : Bool) (group : List ℕ) (d : Cursor) → Line d.rest → StaysEach read more
      → Stays z {A = List ℕ} d (of_group read limit count padded group d) (of_group more limit count padded group (followed z d))
  group-stays read more limit count padded group d l each = by (nat_lt (length group) 4)
    where
      bytes-stay : (o : Result (List ℕ) Reason)
          → Stays z {A = List ℕ} d (o >>= (λ bytes. four read limit count d bytes)) (o >>= (λ bytes. four more limit count (followed z d) bytes))
      bytes-stay (Ok bytes) =
          stays-passed z Always d (passes limit (count + length bytes)) ScalarLimit (with_front bytes (read (count + length bytes) (nat_lt (length bytes) 3) d))
          (with_front bytes (more (count + length bytes) (nat_lt (length bytes) 3) (followed z d)))
          (stays-as z Always d (read (count + length bytes) (nat_lt (length bytes) 3) d) (more (count + length bytes) (nat_lt (length bytes) 3) (followed z d)) (λ xs. bytes ++ xs)
          (each (count + length bytes) (nat_lt (length bytes) 3) d l))
      bytes-stay (Err why) = tt

      by : (few : Bool) → Stays z {A = List ℕ} d (if few then lob.last_group group d else (lob.group_bytes padded group >>= (λ bytes. four read limit count d bytes)))
          (if few then lob.last_group group (followed z d) else (lob.group_bytes padded group >>= (λ bytes. four more limit count (followed z d) bytes)))
      by true = last-stays group d l
      by false = bytes-stay (lob.group_bytes padded group)

  group-ends : (read : ℕ → Bool → Cursor → Spelled) (limit : Option ℕ) (count : ℕ) (padded : Bool) (group : List ℕ) (d : Cursor) → d.rest ≡ [] → EndsNever read
      → (why : Reason) × (of_group read limit count padded group d ≡ Err why)
  group-ends read limit count padded group d none never = by (nat_lt (length group) 4)
    where
      over : (bytes : List ℕ) (b : Bool) → (why : Reason) × ((refuse b ScalarLimit >> with_front bytes (read (count + length bytes) (nat_lt (length bytes) 3) d)) ≡ Err why)
      over bytes true = (ScalarLimit, refl)
      over bytes false = let gone = never (count + length bytes) (nat_lt (length bytes) 3) d none in (gone.0, ap (with_front bytes) gone.1)

      bytes-end : (o : Result (List ℕ) Reason) → (why : Reason) × ((o >>= (λ bytes. four read limit count d bytes)) ≡ Err why)
      bytes-end (Ok bytes) = over bytes (passes limit (count + length bytes))
      bytes-end (Err why) = (why, refl)

      by : (few : Bool) → (why : Reason) × ((if few then lob.last_group group d else (lob.group_bytes padded group >>= (λ bytes. four read limit count d bytes))) ≡ Err why)
      by true = (Truncated, last-ends group d none)
      by false = bytes-end (lob.group_bytes padded group)

  groups-end : (most : ℕ) (limit : Option ℕ) (n : ℕ) (b : Bool) (d : Cursor) → d.rest ≡ [] → (why : Reason) × (groups_for most limit n b d ≡ Err why)
  unfolding groups_for group_of
  groups-end zero limit n b d none = (Truncated, refl)
  groups-end (suc most) limit n b d none =
      group-ends (λ n b d. groups_for most limit n b d) limit n b (group_of 4 d.rest).0 (lob.after_to d (group_of 4 d.rest).1) (ap (λ (rest : List ℕ). (group_of 4 rest).1) none)
      (λ n b d none. groups-end most limit n b d none)

  groups-stay : (most more : ℕ) (limit : Option ℕ) (count : ℕ) (padded : Bool) (c : Cursor) → Line c.rest → most ≤ more
      → Stays z {A = List ℕ} c (groups_for most limit count padded c) (groups_for more limit count padded (followed z c))
  unfolding groups_for
  groups-stay zero more limit count padded c l le = tt
  groups-stay (suc most) zero limit count padded c l le = absurd (omega (arith, le))
  groups-stay (suc most) (suc more) limit count padded c l le =
      groups-by (λ n b d. groups_for most limit n b d) (λ n b d. groups_for more limit n b d) limit count padded c l (nat_lt 0 (length (group_of 4 c.rest).1)) refl
      (λ n b d l. groups-stay most more limit n b d l (omega (arith, le))) (λ n b d none. groups-end most limit n b d none)
    where
      groups-by : (read more : ℕ → Bool → Cursor → Spelled) (limit : Option ℕ) (count : ℕ) (padded : Bool) (c : Cursor) → Line c.rest → (some : Bool) → nat_lt 0 (length (group_of 4 c.rest).1) ≡ some
          → StaysEach read more → EndsNever read
          → Stays z {A = List ℕ} c (of_group read limit count padded (group_of 4 c.rest).0 (lob.after_to c (group_of 4 c.rest).1))
          (of_group more limit count padded (group_of 4 (c.rest ++ z)).0 (lob.after_to (followed z c) (group_of 4 (c.rest ++ z)).1))
      groups-by read more limit count padded c l true is each never =
          let some = ltb-true 0 (length (group_of 4 c.rest).1) is in
          let line = group-line 4 c.rest (inr l) some in
          let leads = to-leads c (group_of 4 c.rest).1 line (let all = group-counts 4 c.rest in omega (arith, all)) in
          subst (λ (g : List ℕ × List ℕ). Stays z {A = List ℕ} c (of_group read limit count padded (group_of 4 c.rest).0 (lob.after_to c (group_of 4 c.rest).1))
          (of_group more limit count padded g.0 (lob.after_to (followed z c) g.1)))
          (sym (group-same 4 c.rest some))
          (subst (λ (d : Cursor). Stays z {A = List ℕ} c (of_group read limit count padded (group_of 4 c.rest).0 (lob.after_to c (group_of 4 c.rest).1))
          (of_group more limit count padded (group_of 4 c.rest).0 d))
          (sym (to-followed c (group_of 4 c.rest).1))
          (stays-from z Always c (lob.after_to c (group_of 4 c.rest).1) (of_group read limit count padded (group_of 4 c.rest).0 (lob.after_to c (group_of 4 c.rest).1))
          (of_group more limit count padded (group_of 4 c.rest).0 (followed z (lob.after_to c (group_of 4 c.rest).1))) leads
          (group-stays read more limit count padded (group_of 4 c.rest).0 (lob.after_to c (group_of 4 c.rest).1) line each)))
      groups-by read more limit count padded c l false is each never =
          let none : (group_of 4 c.rest).1 ≡ [] = drop-none 0 (group_of 4 c.rest).1 (ltb-false 0 (length (group_of 4 c.rest).1) is) in
          let gone = group-ends read limit count padded (group_of 4 c.rest).0 (lob.after_to c (group_of 4 c.rest).1) none never in
          subst (λ (o : Spelled). Stays z {A = List ℕ} c o (of_group more limit count padded (group_of 4 (c.rest ++ z)).0 (lob.after_to (followed z c) (group_of 4 (c.rest ++ z)).1))) (sym gone.1) tt

  blob-stays : (limit : Option ℕ) (c : Cursor) → Line c.rest → Stays z {A = Scalar SymbolAt} c (lob.blob_at limit c) (lob.blob_at limit (followed z c))
  blob-stays limit c l =
      stays-as z Always c (groups_for (suc (length c.rest)) limit 0 false c) (groups_for (suc (length (c.rest ++ z))) limit 0 false (followed z c)) value.blob
      (groups-stay (suc (length c.rest)) (suc (length (c.rest ++ z))) limit 0 false c l (omega (arith, length-append c.rest z)))

  -- ---- clobs

  none-after : (b : Bool) → (b && false) ≡ false
  none-after true = refl
  none-after false = refl

  -- the braces after white space
  record Closes (c : Cursor) : Type 0 where
    less : length (run_of (first_is is_white) c.rest).0 < length c.rest
    line : Line (after_run (first_is is_white) c).rest

  clob-closes : (is_long : Bool) (c d : Cursor) → Line c.rest → lob.clob_closed_at is_long (after_run (first_is is_white) c) ≡ Ok d → Closes c
  clob-closes is_long c d l e =
      let e' : Cursor = after_run (first_is is_white) c in
      let parts = passed (is_long && lob.are_cut_quotes e'.rest) Truncated (lob.closed_at e') d e in
      let is = closed-is e' d parts.1 in
      let less = white-less z c (omega (arith, ap length is.rest)) in
      record { less = less; line = (white-leads z c l less).line }

  clob-closed : (is_long : Bool) (c d : Cursor) → Line c.rest → lob.clob_closed_at is_long (after_run (first_is is_white) c) ≡ Ok d
      → (lob.clob_closed_at is_long (after_run (first_is is_white) (followed z c)) ≡ Ok (followed z d)) × Leads c d
  clob-closed is_long c d l e =
      let b : Cursor = after_run (first_is is_white) c in
      let parts = passed (is_long && lob.are_cut_quotes b.rest) Truncated (lob.closed_at b) d e in
      let is = closed-is b d parts.1 in
      let closes = clob-closes is_long c d l e in
      let on = closed-stays b d closes.line parts.1 in
      let whole : lob.are_cut_quotes (b.rest ++ z) ≡ false = ap (λ (rest : List ℕ). lob.are_cut_quotes (rest ++ z)) is.rest in (
        ap (lob.clob_closed_at is_long) (after-stays z is_white c closes.less)
            ∙ ap (λ (cut : Bool). refuse (is_long && cut) Truncated >> lob.closed_at (followed z b)) whole
            ∙ ap (λ (cut : Bool). refuse cut Truncated >> lob.closed_at (followed z b)) (none-after is_long)
            ∙ on.0,
        leads-then c b d (white-leads z c l closes.less) on.1,
      )

  clob-by : (q : Quote) (is_long : Bool) (limit : Option ℕ) (c : Cursor) → IsQuote q → NoLf q.closer → Line c.rest → ((d : Cursor) → Closes d → NoNext z q d)
      → Stays z {A = Scalar SymbolAt} c (text_at q limit c >>= (λ t. lob.clob_closed_at is_long (after_run (first_is is_white) t.1) >>= (λ d. Ok (value.clob t.0, d))))
      (text_at q limit (followed z c) >>= (λ t. lob.clob_closed_at is_long (after_run (first_is is_white) t.1) >>= (λ d. Ok (value.clob t.0, d))))
  clob-by q is_long limit c is free l ends =
      stays-shown z (NoNext z q) c (text_at q limit c) (text_at q limit (followed z c)) _ _ (text-stays z q limit c is free l)
      (λ x leads. with-stays (value.clob x.0) c (lob.clob_closed_at is_long (after_run (first_is is_white) x.1)) (lob.clob_closed_at is_long (after_run (first_is is_white) (followed z x.1)))
      (λ d e. let on = clob-closed is_long x.1 d leads.line e in (on.0, leads-then c x.1 d leads on.1)))
      (λ x y leads e. let closed = closed-first x.1 x.0 y e in ends x.1 (clob-closes is_long x.1 closed.0 leads.line closed.1))
    where
      closed-first : (b : Cursor) (t : List ℕ) (y : Scalar SymbolAt × Cursor) → (lob.clob_closed_at is_long (after_run (first_is is_white) b) >>= (λ d. Ok (value.clob t, d))) ≡ Ok y
          → (d : Cursor) × (lob.clob_closed_at is_long (after_run (first_is is_white) b) ≡ Ok d)
      closed-first b t y e = by (lob.clob_closed_at is_long (after_run (first_is is_white) b)) e
        where
          by : (o : Result Cursor Reason) → (o >>= (λ d. Ok (value.clob t, d))) ≡ Ok y → (d : Cursor) × (o ≡ Ok d)
          by (Ok d) e = (d, refl)
          by (Err why) e = absurd (cc e)

  clob-stays : (is_long : Bool) (limit : Option ℕ) (c : Cursor) → Line c.rest → Stays z {A = Scalar SymbolAt} c (lob.clob_at limit is_long c) (lob.clob_at limit is_long (followed z c))
  clob-stays true limit c l =
      clob-by (long_quote true) true limit c (omega arith, omega arith) (refl, (refl, (refl, tt))) l
      (λ d closes none. ap (quoted.after_quotes (long_quote true)) (after-stays z is_white d closes.less)
      ∙ quotes-none z (long_quote true) (after_run (first_is is_white) d) (refl, (refl, (refl, tt))) closes.line none)
  clob-stays false limit c l = clob-by (short_quote true) false limit c (omega arith, omega arith) (refl, tt) l (λ d closes none. refl)

  -- ---- lobs

  lob_in-stays : (limit : Option ℕ) (c : Cursor) → Line c.rest → Stays z {A = Scalar SymbolAt} c (lob.lob_in limit c) (lob.lob_in limit (followed z c))
  lob_in-stays limit c l =
      stays-chosen z c (begins_with (34 ∷ []) c.rest) (begins_with (34 ∷ []) (c.rest ++ z)) _ _ _ _ (begins-same z (34 ∷ []) c.rest (refl, tt) l)
      (λ is. opened false 1 (begins-less (34 ∷ []) c.rest (refl, tt) l is))
      (λ _. stays-chosen z c (begins_with (39 ∷ 39 ∷ 39 ∷ []) c.rest) (begins_with (39 ∷ 39 ∷ 39 ∷ []) (c.rest ++ z)) _ _ _ _ (begins-same z (39 ∷ 39 ∷ 39 ∷ []) c.rest (refl, (refl, (refl, tt))) l)
      (λ is. opened true 3 (begins-less (39 ∷ 39 ∷ 39 ∷ []) c.rest (refl, (refl, (refl, tt))) l is)) (λ _. blob-stays limit c l))
    where
      opened : (is_long : Bool) (n : ℕ) → n < length c.rest → Stays z {A = Scalar SymbolAt} c (lob.clob_at limit is_long (skip n c)) (lob.clob_at limit is_long (skip n (followed z c)))
      opened is_long n less =
          let leads : Leads c (skip n c) = leads-skip n c l less in
          subst (λ (d : Cursor). Stays z {A = Scalar SymbolAt} c (lob.clob_at limit is_long (skip n c)) (lob.clob_at limit is_long d)) (sym (skip-followed z n c (omega (arith, less))))
          (stays-from z Always c (skip n c) (lob.clob_at limit is_long (skip n c)) (lob.clob_at limit is_long (followed z (skip n c))) leads (clob-stays is_long limit (skip n c) leads.line))

  lob-ends : (limit : Option ℕ) (p : ℕ) (rest : List ℕ) → rest ≡ [] → lob.lob_in {S = SymbolAt} limit (at p rest) ≡ Err Truncated
  unfolding groups_for group_of
  lob-ends limit p rest none = ap (λ (rest : List ℕ). lob.lob_in {S = SymbolAt} limit (at p rest)) none

  pub lob-stays : (limit : Option ℕ) (c : Cursor) → Line c.rest → Stays z {A = Scalar SymbolAt} c (lob_at limit c) (lob_at limit (followed z c))
  unfolding lob_at
  lob-stays limit c l = by (nat_lt (length (run_of (first_is is_white) c.rest).0) (length c.rest)) refl
    where
      by : (b : Bool) → nat_lt (length (run_of (first_is is_white) c.rest).0) (length c.rest) ≡ b
          → Stays z {A = Scalar SymbolAt} c (lob.lob_in limit (after_run (first_is is_white) c)) (lob.lob_in limit (after_run (first_is is_white) (followed z c)))
      by true is =
          let less = ltb-true (length (run_of (first_is is_white) c.rest).0) (length c.rest) is in
          let leads = white-leads z c l less in
          subst (λ (d : Cursor). Stays z {A = Scalar SymbolAt} c (lob.lob_in limit (after_run (first_is is_white) c)) (lob.lob_in limit d)) (sym (after-stays z is_white c less))
          (stays-from z Always c (after_run (first_is is_white) c) (lob.lob_in limit (after_run (first_is is_white) c)) (lob.lob_in limit (followed z (after_run (first_is is_white) c))) leads
          (lob_in-stays limit (after_run (first_is is_white) c) leads.line))
      by false is =
          subst (λ (o : Result (Scalar SymbolAt × Cursor) Reason). Stays z c o (lob.lob_in limit (after_run (first_is is_white) (followed z c))))
          (sym (lob-ends limit (c.place + length (run_of (first_is is_white) c.rest).0) (drop (length (run_of (first_is is_white) c.rest).0) c.rest)
          (drop-none (length (run_of (first_is is_white) c.rest).0) c.rest (ltb-false (length (run_of (first_is is_white) c.rest).0) (length c.rest) is))))
          tt
