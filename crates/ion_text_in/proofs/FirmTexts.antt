-- What stands between quotes in a line is the same whatever follows the line.
use Rattle.std.proofs.Common.{◌≡◌, ℕ, zero, suc, ◌+◌, ◌<◌, ◌≤◌, Bool, true, false, not, ◌||◌, ◌==◌, nat_lt, if◌then◌else◌, List, [], ◌∷◌, ◌++◌, length, inl, inr, Option, Some, None, Result, Ok, Err, refl, sym, ap, subst, ◌∙◌, arith}
use Rattle.std.proofs.lemmas.Bool.{both_ways, ltb-true, ltb-false}
use Rattle.std.proofs.lemmas.List.{length-append, length-drop}
use Rattle.std.specs.Str.{is_utf8}
use Rattle.ion_meter.specs.declared.fault.Reason.{Reason}
use Rattle.ion_meter.specs.declared.fault.Reason.TheVariants.{Truncated, BadText, ScalarLimit}
use Rattle.ion_meter.specs.Sources.{Cursor, skip}
use Rattle.ion_value.specs.Digits.{first_is}
use Rattle.ion_value.specs.Name.{begins_with}
use Rattle.ion_value.specs.Parts.{Placed, refuse, ◌>>=◌, ◌>>◌}
use Rattle.ion_text_in.specs.Blanks.{blanks, is_white}
use Rattle.ion_text_in.specs.Limit.{passes}
use Rattle.ion_text_in.specs.Meaning.{at}
use Rattle.ion_text_in.specs.Places.{run_of, after_run}
use Rattle.ion_text_in.specs.Quoted as quoted
use Rattle.ion_text_in.specs.Quoted.{Quote, Piece, char, close, illegal, cut, long_quote, piece_at, pieces_for, segment_at, segments_for, text_at}
use Rattle.ion_text_in.specs.Scanning.{IsQuote, Spelled, with_front}
use Rattle.ion_text_in.proofs.Fuel.{begins-within}
use Rattle.ion_text_in.proofs.Lines.{Line, last, later, Lines, Leads, NoLf, begins-less, line-not, line-tail, drop-none, leads-then, leads-skip, followed, skip-followed, begins-same, blanks-firm, blanks-stop, after-stays}
use Rattle.ion_text_in.proofs.ShownPieces.{IsWhole, escape-kept, piece-kept}
use Rattle.ion_text_in.proofs.Shrinking.{PieceIs, piece-is}

pub lines-some : (bytes : List ℕ) → Lines bytes → 0 < length bytes → Line bytes
lines-some bytes (inl e) some = absurd (omega (arith, some, ap length e))
lines-some bytes (inr l) some = l

-- whatever the cursor
abbrev pub Always : Cursor → Type 0
Always c = Unit {0}

module _ (z : List ℕ) where
  -- what is read up to a cursor in a line is read so too where more bytes follow the line, if something holds of the cursor
  abbrev pub StaysIf : {A : Type 0} → (Cursor → Type 0) → Cursor → Result (A × Cursor) Reason → Result (A × Cursor) Reason → Type 0
  StaysIf P c (Ok x) w = (P x.1 → w ≡ Ok (x.0, followed z x.1)) × Leads c x.1
  StaysIf P c (Err why) w = Unit {0}

  abbrev pub Stays : {A : Type 0} → Cursor → Result (A × Cursor) Reason → Result (A × Cursor) Reason → Type 0
  Stays c o w = StaysIf Always c o w

  pub stays-from : {A : Type 0} (P : Cursor → Type 0) (c d : Cursor) (o w : Result (A × Cursor) Reason) → Leads c d → StaysIf P d o w → StaysIf P c o w
  stays-from P c d (Ok x) w leads s = (s.0, leads-then c d x.1 leads s.1)
  stays-from P c d (Err why) w leads s = tt

  pub stays-given : {A : Type 0} (P Q : Cursor → Type 0) (c : Cursor) (o w : Result (A × Cursor) Reason) → ((d : Cursor) → Q d → P d) → StaysIf P c o w → StaysIf Q c o w
  stays-given P Q c (Ok x) w more s = (λ q. s.0 (more x.1 q), s.1)
  stays-given P Q c (Err why) w more s = tt

  pub stays-then : {A B : Type 0} (P : Cursor → Type 0) (c : Cursor) (o w : Result (A × Cursor) Reason) (f g : A × Cursor → Result (B × Cursor) Reason) → Stays c o w
      → ((x : A × Cursor) → Leads c x.1 → StaysIf P c (f x) (g (x.0, followed z x.1))) → StaysIf P c (o >>= f) (w >>= g)
  stays-then {A} P c (Ok x) w f g s more = subst (λ (w : Result (A × Cursor) Reason). StaysIf P c (f x) (w >>= g)) (sym (s.0 tt)) (more x s.1)
  stays-then P c (Err why) w f g s more = tt

  -- where the next part shows that what is asked of the cursor holds
  pub stays-shown : {A B : Type 0} (P : Cursor → Type 0) (c : Cursor) (o w : Result (A × Cursor) Reason) (f g : A × Cursor → Result (B × Cursor) Reason) → StaysIf P c o w
      → ((x : A × Cursor) → Leads c x.1 → Stays c (f x) (g (x.0, followed z x.1))) → ((x : A × Cursor) (y : B × Cursor) → Leads c x.1 → f x ≡ Ok y → P x.1)
      → Stays c (o >>= f) (w >>= g)
  stays-shown {A} {B} P c (Ok x) w f g s more shows = by (f x) refl (more x s.1)
    where
      by : (r : Result (B × Cursor) Reason) → f x ≡ r → Stays c r (g (x.0, followed z x.1)) → Stays c r (w >>= g)
      by (Ok y) is st = (λ _. ap (λ (w : Result (A × Cursor) Reason). w >>= g) (s.0 (shows x y s.1 is)) ∙ st.0 tt, st.1)
      by (Err why) is st = tt
  stays-shown P c (Err why) w f g s more shows = tt

  -- as something else
  pub stays-as : {A B : Type 0} (P : Cursor → Type 0) (c : Cursor) (o w : Result (A × Cursor) Reason) (k : A → B) → StaysIf P c o w
      → StaysIf {A = B} P c (o >>= (λ x. Ok (k x.0, x.1))) (w >>= (λ x. Ok (k x.0, x.1)))
  stays-as {A} {B} P c (Ok x) w k s = (λ p. ap {B = Result (B × Cursor) Reason} (λ (w : Result (A × Cursor) Reason). w >>= (λ x. Ok (k x.0, x.1))) (s.0 p), s.1)
  stays-as P c (Err why) w k s = tt

  pub stays-passed : {A : Type 0} (P : Cursor → Type 0) (c : Cursor) (b : Bool) (why : Reason) (o w : Result (A × Cursor) Reason) → StaysIf P c o w
      → StaysIf P c (refuse b why >> o) (refuse b why >> w)
  stays-passed P c true why o w s = tt
  stays-passed P c false why o w s = s

  pub stays-chosen : {A : Type 0} (c : Cursor) (b long : Bool) (x y u v : Result (A × Cursor) Reason) → long ≡ b → (b ≡ true → Stays c x u) → (b ≡ false → Stays c y v)
      → Stays c (if b then x else y) (if long then u else v)
  stays-chosen c true true x y u v e sx sy = sx refl
  stays-chosen c true false x y u v e sx sy = absurd (cc e)
  stays-chosen c false true x y u v e sx sy = absurd (cc e)
  stays-chosen c false false x y u v e sx sy = sy refl

  -- ---- pieces

  no-end : (e : ℕ) (more : List ℕ) → Line (e ∷ more) → more ≡ [] → (e == 13) ≡ false
  no-end e _ (last is) none = subst (λ (x : ℕ). (x == 13) ≡ false) (sym is) refl
  no-end e _ (later l) none = absurd (line-not (subst Line none l))

  no-escape : (a : ℕ) → (a == 92) ≡ true → a ≡ 10 → ⊥
  no-escape a is e = both_ways (a == 92) (subst (λ (x : ℕ). (x == 92) ≡ false) (sym e) refl) is

  escape-same : (in_clob : Bool) (bytes : List ℕ) → Line bytes → IsWhole (quoted.escape in_clob bytes) → quoted.escape in_clob (bytes ++ z) ≡ quoted.escape in_clob bytes
  escape-same in_clob [] l w = absurd w
  escape-same in_clob (e ∷ more) l w = escape-kept in_clob e more z (no-end e more l) w

  piece-same : (q : Quote) (a : ℕ) (bytes : List ℕ) → NoLf q.closer → Line (a ∷ bytes) → IsWhole (piece_at q (a ∷ bytes)) → piece_at q (a ∷ (bytes ++ z)) ≡ piece_at q (a ∷ bytes)
  piece-same q a bytes free l w =
      piece-kept q a bytes z (begins-same z q.closer (a ∷ bytes) free l) (λ is. escape-same q.in_clob bytes (line-tail a bytes l (no-escape a is))) (λ _. no-end a bytes l) w

  -- where no byte is left there is a fault
  abbrev EndsNever : (ℕ → Cursor → Spelled) → Type 0
  EndsNever read = (n : ℕ) (d : Cursor) → d.rest ≡ [] → (why : Reason) × (read n d ≡ Err why)

  -- in a line more bytes change nothing
  abbrev StaysEach : (ℕ → Cursor → Spelled) → (ℕ → Cursor → Spelled) → Type 0
  StaysEach read more = (n : ℕ) (d : Cursor) → Line d.rest → Stays {A = List ℕ} d (read n d) (more n (followed z d))

  char-stays : (read more : ℕ → Cursor → Spelled) (limit : Option ℕ) (count : ℕ) (c : Cursor) (bytes : List ℕ) (taken : ℕ) (less : Bool) → nat_lt taken (length c.rest) ≡ less
      → Line c.rest → StaysEach read more → EndsNever read
      → Stays {A = List ℕ} c (refuse (passes limit (count + length bytes)) ScalarLimit >> with_front bytes (read (count + length bytes) (skip taken c)))
      (refuse (passes limit (count + length bytes)) ScalarLimit >> with_front bytes (more (count + length bytes) (skip taken (followed z c))))
  char-stays read more limit count c bytes taken true is l each never =
      let less = ltb-true taken (length c.rest) is in
      let leads : Leads c (skip taken c) = leads-skip taken c l less in
      stays-passed Always c (passes limit (count + length bytes)) ScalarLimit (with_front bytes (read (count + length bytes) (skip taken c)))
      (with_front bytes (more (count + length bytes) (skip taken (followed z c))))
      (subst (λ (d : Cursor). Stays {A = List ℕ} c (with_front bytes (read (count + length bytes) (skip taken c))) (with_front bytes (more (count + length bytes) d)))
      (sym (skip-followed z taken c (omega (arith, less))))
      (stays-as Always c (read (count + length bytes) (skip taken c)) (more (count + length bytes) (followed z (skip taken c))) (λ xs. bytes ++ xs)
      (stays-from Always c (skip taken c) (read (count + length bytes) (skip taken c)) (more (count + length bytes) (followed z (skip taken c))) leads
      (each (count + length bytes) (skip taken c) leads.line))))
  char-stays read more limit count c bytes taken false is l each never =
      let gone = never (count + length bytes) (skip taken c) (drop-none taken c.rest (ltb-false taken (length c.rest) is)) in
      stays-passed Always c (passes limit (count + length bytes)) ScalarLimit (with_front bytes (read (count + length bytes) (skip taken c)))
      (with_front bytes (more (count + length bytes) (skip taken (followed z c))))
      (subst (λ (o : Spelled). Stays {A = List ℕ} c (with_front bytes o) (with_front bytes (more (count + length bytes) (skip taken (followed z c))))) (sym gone.1) tt)

  with_piece-stays : (read more : ℕ → Cursor → Spelled) (q : Quote) (limit : Option ℕ) (count : ℕ) (c : Cursor) (piece : Piece) → NoLf q.closer → Line c.rest → PieceIs q c.rest piece
      → StaysEach read more → EndsNever read
      → Stays {A = List ℕ} c (quoted.with_piece read q limit count c piece) (quoted.with_piece more q limit count (followed z c) piece)
  with_piece-stays read more q limit count c (char bytes taken) free l is each never =
      char-stays read more limit count c bytes taken (nat_lt taken (length c.rest)) refl l each never
  with_piece-stays read more q limit count c (close taken) free l is each never =
      let less : taken < length c.rest = (let there = begins-less q.closer c.rest free l is.0 in omega (arith, there, is.1)) in
      (λ _. ap {B = Spelled} (λ (d : Cursor). Ok ([], d)) (skip-followed z taken c (omega (arith, less))), leads-skip taken c l less)
  with_piece-stays read more q limit count c piece free l is each never = tt

  piece-by : (read more : ℕ → Cursor → Spelled) (q : Quote) (limit : Option ℕ) (count : ℕ) (c : Cursor) (piece long : Piece) → (IsWhole piece → long ≡ piece)
      → NoLf q.closer → Line c.rest → PieceIs q c.rest piece → StaysEach read more → EndsNever read
      → Stays {A = List ℕ} c (quoted.with_piece read q limit count c piece) (quoted.with_piece more q limit count (followed z c) long)
  piece-by read more q limit count c cut long same free l is each never = tt
  piece-by read more q limit count c piece long same free l is each never =
      subst (λ (long : Piece). Stays {A = List ℕ} c (quoted.with_piece read q limit count c piece) (quoted.with_piece more q limit count (followed z c) long)) (sym (same tt))
      (with_piece-stays read more q limit count c piece free l is each never)

  pieces-end : (most : ℕ) (q : Quote) (limit : Option ℕ) (n : ℕ) (d : Cursor) → d.rest ≡ [] → (why : Reason) × (pieces_for most q limit n d ≡ Err why)
  unfolding pieces_for piece_at
  pieces-end zero q limit n d none = (Truncated, refl)
  pieces-end (suc most) q limit n d none =
      (Truncated, ap (λ (rest : List ℕ). quoted.with_piece (λ n d. pieces_for most q limit n d) q limit n d (piece_at q rest)) none)

  pub pieces-stay : (most more : ℕ) (q : Quote) (limit : Option ℕ) (count p : ℕ) (rest : List ℕ) → NoLf q.closer → Line rest → most ≤ more
      → Stays {A = List ℕ} (at p rest) (pieces_for most q limit count (at p rest)) (pieces_for more q limit count (at p (rest ++ z)))
  unfolding pieces_for
  pieces-stay zero more q limit count p rest free l le = tt
  pieces-stay (suc most) zero q limit count p rest free l le = absurd (omega (arith, le))
  pieces-stay (suc most) (suc more) q limit count p [] free l le = absurd (line-not l)
  pieces-stay (suc most) (suc more) q limit count p (a ∷ bytes) free l le =
      piece-by (λ n d. pieces_for most q limit n d) (λ n d. pieces_for more q limit n d) q limit count (at p (a ∷ bytes)) (piece_at q (a ∷ bytes)) (piece_at q (a ∷ (bytes ++ z)))
      (piece-same q a bytes free l) free l (piece-is q (a ∷ bytes)) (λ n d l. pieces-stay most more q limit n d.place d.rest free l (omega (arith, le)))
      (λ n d none. pieces-end most q limit n d none)

  pub segment-stays : (q : Quote) (limit : Option ℕ) (count : ℕ) (c : Cursor) → NoLf q.closer → Line c.rest
      → Stays {A = List ℕ} c (segment_at q limit count c) (segment_at q limit count (followed z c))
  unfolding segment_at
  segment-stays q limit count c free l =
      stays-then Always c (pieces_for (suc (length c.rest)) q limit count c) (pieces_for (suc (length (c.rest ++ z))) q limit count (followed z c)) _ _
      (pieces-stay (suc (length c.rest)) (suc (length (c.rest ++ z))) q limit count c.place c.rest free l (omega (arith, length-append c.rest z)))
      (λ x leads. stays-passed Always c (not (q.in_clob || is_utf8 x.0)) BadText (Ok x) (Ok (x.0, followed z x.1)) (λ _. refl, leads))

  -- ---- further segments

  quotes-stay : (q : Quote) (c d : Cursor) → NoLf q.closer → Line c.rest → quoted.after_quotes q c ≡ Some d
      → (quoted.after_quotes q (followed z c) ≡ Some (followed z d)) × Leads c d
  quotes-stay q c d free l e = by (begins_with q.closer c.rest) refl e
    where
      by : (b : Bool) → begins_with q.closer c.rest ≡ b → (if b then Some (skip (length q.closer) c) else None) ≡ Some d
          → (quoted.after_quotes q (followed z c) ≡ Some (followed z d)) × Leads c d
      by true there e =
          let is : skip (length q.closer) c ≡ d = cc e in
          let less = begins-less q.closer c.rest free l there in (
            ap {B = Option Cursor} (λ (b : Bool). if b then Some (skip (length q.closer) (followed z c)) else None) (begins-same z q.closer c.rest free l ∙ there)
                ∙ ap Some (skip-followed z (length q.closer) c (omega (arith, less)) ∙ ap (followed z) is),
            subst (λ (d : Cursor). Leads c d) is (leads-skip (length q.closer) c l less),
          )
      by false there e = absurd (cc e)

  pub quotes-none : (q : Quote) (c : Cursor) → NoLf q.closer → Line c.rest → quoted.after_quotes q c ≡ None → quoted.after_quotes q (followed z c) ≡ None
  quotes-none q c free l e = by (begins_with q.closer c.rest) refl e
    where
      by : (b : Bool) → begins_with q.closer c.rest ≡ b → (if b then Some (skip (length q.closer) c) else None) ≡ None → quoted.after_quotes q (followed z c) ≡ None
      by true there e = absurd (cc e)
      by false there e = ap {B = Option Cursor} (λ (b : Bool). if b then Some (skip (length q.closer) (followed z c)) else None) (begins-same z q.closer c.rest free l ∙ there)

  quotes-some : (q : Quote) (c d : Cursor) → IsQuote q → quoted.after_quotes q c ≡ Some d → 0 < length c.rest
  quotes-some q c d is e = by (begins_with q.closer c.rest) refl e
    where
      by : (b : Bool) → begins_with q.closer c.rest ≡ b → (if b then Some (skip (length q.closer) c) else None) ≡ Some d → 0 < length c.rest
      by true there e = omega (arith, is.0, begins-within q.closer c.rest there)
      by false there e = absurd (cc e)

  -- white space that ends within a line
  pub white-leads : (c : Cursor) → Line c.rest → length (run_of (first_is is_white) c.rest).0 < length c.rest → Leads c (after_run (first_is is_white) c)
  white-leads c l less = leads-skip (length (run_of (first_is is_white) c.rest).0) c l less

  pub white-less : (c : Cursor) → 0 < length (after_run (first_is is_white) c).rest → length (run_of (first_is is_white) c.rest).0 < length c.rest
  white-less c some = omega (arith, some, length-drop (length (run_of (first_is is_white) c.rest).0) c.rest)

  between-stays : (in_clob : Bool) (c d : Cursor) → Line c.rest → quoted.between in_clob c ≡ Some d → 0 < length d.rest
      → (quoted.between in_clob (followed z c) ≡ Some (followed z d)) × Leads c d
  between-stays true c d l e some =
      let is : after_run (first_is is_white) c ≡ d = cc e in
      let less = white-less c (subst (λ (d : Cursor). 0 < length d.rest) (sym is) some) in
      (ap Some (after-stays z is_white c less ∙ ap (followed z) is), subst (λ (d : Cursor). Leads c d) is (white-leads c l less))
  between-stays false c d l e some = by (blanks c) refl e
    where
      by : (o : Placed Cursor) → blanks c ≡ o → quoted.where_read o ≡ Some d → (quoted.between false (followed z c) ≡ Some (followed z d)) × Leads c d
      by (Ok b) is e =
          let same : b ≡ d = cc e in
          let here : blanks c ≡ Ok d = is ∙ ap Ok same in
          let firm = blanks-firm z c d (inr l) here in
          let line : Line d.rest = lines-some d.rest firm.1 some in
          (ap (λ (o : Placed Cursor). quoted.where_read o) (blanks-stop z c d (inr l) here line), record { line = line; total = firm.2 })
      by (Err fault) is e = absurd (cc e)

  next-goes : (q : Quote) (c d : Cursor) → IsQuote q → NoLf q.closer → Line c.rest → quoted.next_segment q c ≡ Some d
      → (quoted.next_segment q (followed z c) ≡ Some (followed z d)) × Leads c d
  next-goes q c d is free l e = by q.is_long e
    where
      from : (o : Option Cursor) → quoted.between q.in_clob c ≡ o → quoted.in_next q o ≡ Some d
          → (quoted.in_next q (quoted.between q.in_clob (followed z c)) ≡ Some (followed z d)) × Leads c d
      from None there e = absurd (cc e)
      from (Some b) there e =
          let on = between-stays q.in_clob c b l there (quotes-some q b d is e) in
          let after = quotes-stay q b d free on.1.line e in
          (ap (quoted.in_next q) on.0 ∙ after.0, leads-then c b d on.1 after.1)

      by : (long : Bool) → (if long then quoted.in_next q (quoted.between q.in_clob c) else None) ≡ Some d
          → ((if long then quoted.in_next q (quoted.between q.in_clob (followed z c)) else None) ≡ Some (followed z d)) × Leads c d
      by true e = from (quoted.between q.in_clob c) refl e
      by false e = absurd (cc e)

  -- no segment is added
  abbrev pub NoNext : Quote → Cursor → Type 0
  NoNext q c = quoted.next_segment q c ≡ None → quoted.next_segment q (followed z c) ≡ None

  abbrev next_of : Placed Cursor → Option Cursor
  next_of o = quoted.in_next (long_quote false) (quoted.where_read o)

  -- so it is after a string where blanks end, or where none stands after the line
  pub next-none : (c d : Cursor) → Line c.rest → blanks c ≡ Ok d → (d.rest ≡ [] → quoted.next_segment (long_quote false) (at d.place z) ≡ None) → NoNext (long_quote false) c
  next-none c d l e ends none = by firm.1
    where
      firm : (blanks (followed z c) ≡ blanks (followed z d)) × Lines d.rest × (c.place + length c.rest ≡ d.place + length d.rest)
      firm = blanks-firm z c d (inr l) e

      by : Lines d.rest → quoted.next_segment (long_quote false) (followed z c) ≡ None
      by (inl nothing) = ap next_of (firm.0 ∙ ap (λ (rest : List ℕ). blanks (at d.place (rest ++ z))) nothing) ∙ ends nothing
      by (inr m) = ap next_of (blanks-stop z c d (inr l) e m) ∙ quotes-none (long_quote false) d (refl, (refl, (refl, tt))) m (sym (ap next_of e) ∙ none)

  segments-by : (read more : Cursor → Spelled) (q : Quote) (c : Cursor) (x : List ℕ × Cursor) (o : Option Cursor) → quoted.next_segment q x.1 ≡ o → IsQuote q → NoLf q.closer → Leads c x.1
      → ((d : Cursor) → Line d.rest → StaysIf {A = List ℕ} (NoNext q) d (read d) (more (followed z d)))
      → StaysIf {A = List ℕ} (NoNext q) c (quoted.with_segments read x o) (quoted.with_segments more (x.0, followed z x.1) (quoted.next_segment q (followed z x.1)))
  segments-by read more q c x None none is free leads each = (λ ends. ap (quoted.with_segments more (x.0, followed z x.1)) (ends none), leads)
  segments-by read more q c x (Some d) there is free leads each =
      let on = next-goes q x.1 d is free leads.line there in
      subst (λ (o : Option Cursor). StaysIf {A = List ℕ} (NoNext q) c (quoted.with_segments read x (Some d)) (quoted.with_segments more (x.0, followed z x.1) o)) (sym on.0)
      (stays-as (NoNext q) c (read d) (more (followed z d)) (λ ys. x.0 ++ ys)
      (stays-from (NoNext q) c d (read d) (more (followed z d)) (leads-then c x.1 d leads on.1) (each d on.1.line)))

  segments-stay : (most more : ℕ) (q : Quote) (limit : Option ℕ) (count : ℕ) (c : Cursor) → IsQuote q → NoLf q.closer → Line c.rest → most ≤ more
      → StaysIf {A = List ℕ} (NoNext q) c (segments_for most q limit count c) (segments_for more q limit count (followed z c))
  unfolding segments_for
  segments-stay zero more q limit count c is free l le = tt
  segments-stay (suc most) zero q limit count c is free l le = absurd (omega (arith, le))
  segments-stay (suc most) (suc more) q limit count c is free l le =
      stays-then (NoNext q) c (segment_at q limit count c) (segment_at q limit count (followed z c)) _ _ (segment-stays q limit count c free l)
      (λ x leads. segments-by (λ d. segments_for most q limit (count + length x.0) d) (λ d. segments_for more q limit (count + length x.0) d) q c x (quoted.next_segment q x.1) refl is free leads
      (λ d l. segments-stay most more q limit (count + length x.0) d is free l (omega (arith, le))))

  -- a text is the same, but for a segment that stands after the line
  pub text-stays : (q : Quote) (limit : Option ℕ) (c : Cursor) → IsQuote q → NoLf q.closer → Line c.rest
      → StaysIf {A = List ℕ} (NoNext q) c (text_at q limit c) (text_at q limit (followed z c))
  text-stays q limit c is free l = segments-stay (suc (length c.rest)) (suc (length (c.rest ++ z))) q limit 0 c is free l (omega (arith, length-append c.rest z))
