-- What is read of some bytes is the same wherever they begin: blanks, texts, lobs and tokens.
use Rattle.std.proofs.Common.{◌≡◌, ℕ, zero, suc, ◌+◌, ◌-◌, Bool, true, false, not, ◌&&◌, ◌||◌, nat_lt, if◌then◌else◌, List, [], ◌∷◌, ◌++◌, length, drop, option_map, Option, Some, None, Result, Ok, Err, refl, ap, ◌∙◌, arith}
use Rattle.std.specs.Str.{is_utf8}
use lib.Ieee.{inf}
use Rattle.ion_meter.specs.declared.fault.Reason.{Reason}
use Rattle.ion_meter.specs.declared.fault.Reason.TheVariants.{Truncated, BadText, BadLob, ScalarLimit}
use Rattle.ion_meter.specs.Sources.{Cursor, skip}
use Rattle.ion_value.specs.Digits.{first_is, has_minus}
use Rattle.ion_value.specs.Name.{begins_with}
use Rattle.ion_value.specs.Parts.{Placed, refuse, ◌>>=◌, ◌>>◌}
use Rattle.ion_value.specs.Value as value
use Rattle.ion_value.specs.Value.{Scalar, SymbolAt}
use Rattle.ion_text_in.specs.Blanks.{Begins, white, line_comment, block_comment, no_blank, blank_at, is_line_end, is_white, ends_block, here, blanks, blanks_at, in_line, opening, in_block, closing}
use Rattle.ion_text_in.specs.Limit.{passes}
use Rattle.ion_text_in.specs.Lob as lob
use Rattle.ion_text_in.specs.Lob.{group_of, groups_for, lob_at}
use Rattle.ion_text_in.specs.Places.{run_of, after_run}
use Rattle.ion_text_in.specs.Quoted as quoted
use Rattle.ion_text_in.specs.Quoted.{Quote, Piece, char, close, illegal, cut, symbol_quote, short_quote, long_quote, piece_at, pieces_for, segment_at, segments_for, text_at}
use Rattle.ion_text_in.specs.Scanning.{Spelled, with_front}
use Rattle.ion_text_in.specs.Token as tokens
use Rattle.ion_text_in.specs.Token.{First, a_word, a_quoted, a_short, a_long, a_run, a_lob, an_operator, an_infinity, a_begin, an_end, a_comma, a_colon, two_colons, no_token, Token, plain, float, name, text, operator, in_run, in_operator, bytes_of, word_of, counted, run_token, word_token, mark, token_of}
use Rattle.ion_text_in.proofs.FirmLobs.{four, of_group}

module _ (far : ℕ) where
  -- a cursor so many bytes further on
  abbrev pub moved : Cursor → Cursor
  moved c = record { place = c.place + far; rest = c.rest }

  abbrev pub moved_cursor : Placed Cursor → Placed Cursor
  moved_cursor (Ok c) = Ok (moved c)
  moved_cursor (Err fault) = Err (fault.0, fault.1 + far)

  pub skip-moved : (n : ℕ) (c : Cursor) → skip n (moved c) ≡ moved (skip n c)
  skip-moved n c = let place : c.place + far + n ≡ c.place + n + far = omega arith in ap (λ (p : ℕ). record { place = p; rest = drop n c.rest }) place

  -- ---- blanks

  begins-moved : (p q b : ℕ) (bytes : List ℕ) (begins : Begins) → q ≡ p + far → blanks_at (suc q) bytes ≡ moved_cursor (blanks_at (suc p) bytes) → in_line (suc q) bytes ≡ moved_cursor (in_line (suc p) bytes)
      → opening q (suc q) bytes ≡ moved_cursor (opening p (suc p) bytes)
      → (elim begins as (λ _. Placed Cursor) [ white ↦ blanks_at (suc q) bytes | line_comment ↦ in_line (suc q) bytes | block_comment ↦ opening q (suc q) bytes | no_blank ↦ here q (b ∷ bytes) ])
      ≡ moved_cursor (elim begins as (λ _. Placed Cursor) [ white ↦ blanks_at (suc p) bytes | line_comment ↦ in_line (suc p) bytes | block_comment ↦ opening p (suc p) bytes | no_blank ↦ here p (b ∷ bytes) ])
  begins-moved p q b bytes white e w l o = w
  begins-moved p q b bytes line_comment e w l o = l
  begins-moved p q b bytes block_comment e w l o = o
  begins-moved p q b bytes no_blank e w l o = ap (λ (q : ℕ). here q (b ∷ bytes)) e

  either-moved : (is : Bool) (x y u v : Placed Cursor) → u ≡ moved_cursor x → v ≡ moved_cursor y
      → (elim is as (λ _. Placed Cursor) [ true ↦ u | false ↦ v ]) ≡ moved_cursor (elim is as (λ _. Placed Cursor) [ true ↦ x | false ↦ y ])
  either-moved true x y u v eu ev = eu
  either-moved false x y u v eu ev = ev

  mutual
    unfolding blanks_at in_line opening in_block closing

    blanks_at-moved : (p q : ℕ) (bytes : List ℕ) → q ≡ p + far → blanks_at q bytes ≡ moved_cursor (blanks_at p bytes)
    blanks_at-moved p q [] e = ap (λ (q : ℕ). here q []) e
    blanks_at-moved p q (b ∷ bytes) e =
        begins-moved p q b bytes (blank_at b bytes) e (blanks_at-moved (suc p) (suc q) bytes (omega (arith, e))) (line-moved (suc p) (suc q) bytes (omega (arith, e)))
        (opening-moved p (suc p) q (suc q) bytes e (omega (arith, e)))

    line-moved : (p q : ℕ) (bytes : List ℕ) → q ≡ p + far → in_line q bytes ≡ moved_cursor (in_line p bytes)
    line-moved p q [] e = ap (λ (q : ℕ). here q []) e
    line-moved p q (b ∷ bytes) e =
        either-moved (is_line_end b) (blanks_at (suc p) bytes) (in_line (suc p) bytes) (blanks_at (suc q) bytes) (in_line (suc q) bytes)
        (blanks_at-moved (suc p) (suc q) bytes (omega (arith, e))) (line-moved (suc p) (suc q) bytes (omega (arith, e)))

    opening-moved : (start p from q : ℕ) (bytes : List ℕ) → from ≡ start + far → q ≡ p + far → opening from q bytes ≡ moved_cursor (opening start p bytes)
    opening-moved start p from q [] since e = ap (λ (place : ℕ). Err (Truncated, place)) since
    opening-moved start p from q (b ∷ bytes) since e = block-moved start (suc p) from (suc q) bytes since (omega (arith, e))

    block-moved : (start p from q : ℕ) (bytes : List ℕ) → from ≡ start + far → q ≡ p + far → in_block from q bytes ≡ moved_cursor (in_block start p bytes)
    block-moved start p from q [] since e = ap (λ (place : ℕ). Err (Truncated, place)) since
    block-moved start p from q (b ∷ bytes) since e =
        either-moved (ends_block b bytes) (closing (suc p) bytes) (in_block start (suc p) bytes) (closing (suc q) bytes) (in_block from (suc q) bytes)
        (closing-moved (suc p) (suc q) bytes (omega (arith, e))) (block-moved start (suc p) from (suc q) bytes since (omega (arith, e)))

    closing-moved : (p q : ℕ) (bytes : List ℕ) → q ≡ p + far → closing q bytes ≡ moved_cursor (closing p bytes)
    closing-moved p q [] e = ap (λ (q : ℕ). here q []) e
    closing-moved p q (b ∷ bytes) e = blanks_at-moved (suc p) (suc q) bytes (omega (arith, e))

  pub blanks-moved : (c : Cursor) → blanks (moved c) ≡ moved_cursor (blanks c)
  blanks-moved c = blanks_at-moved c.place (c.place + far) c.rest refl

  -- ---- what is read up to a cursor

  abbrev pub moved_after : {A : Type 0} → Result (A × Cursor) Reason → Result (A × Cursor) Reason
  moved_after (Ok x) = Ok (x.0, moved x.1)
  moved_after (Err why) = Err why

  then-moved : {A B : Type 0} (o w : Result (A × Cursor) Reason) (f g : A × Cursor → Result (B × Cursor) Reason) → w ≡ moved_after o
      → ((x : A × Cursor) → g (x.0, moved x.1) ≡ moved_after (f x)) → (w >>= g) ≡ moved_after (o >>= f)
  then-moved (Ok x) w f g e same = ap (λ w. w >>= g) e ∙ same x
  then-moved (Err why) w f g e same = ap (λ w. w >>= g) e

  pub as-moved : {A B : Type 0} (o w : Result (A × Cursor) Reason) (k : A → B) → w ≡ moved_after o
      → (w >>= (λ x. Ok (k x.0, x.1))) ≡ moved_after {A = B} (o >>= (λ x. Ok (k x.0, x.1)))
  as-moved {A} {B} o w k e = then-moved {A = A} {B = B} o w (λ x. Ok (k x.0, x.1)) (λ x. Ok (k x.0, x.1)) e (λ x. refl)

  pub passed-moved : {A : Type 0} (b : Bool) (why : Reason) (o w : Result (A × Cursor) Reason) → w ≡ moved_after o → (refuse b why >> w) ≡ moved_after (refuse b why >> o)
  passed-moved true why o w e = refl
  passed-moved false why o w e = e

  chosen-moved : {A : Type 0} (b : Bool) (x y u v : Result (A × Cursor) Reason) → u ≡ moved_after x → v ≡ moved_after y → (if b then u else v) ≡ moved_after (if b then x else y)
  chosen-moved true x y u v eu ev = eu
  chosen-moved false x y u v eu ev = ev

  -- ---- texts

  abbrev Moves : (ℕ → Cursor → Spelled) → Type 0
  Moves read = (n : ℕ) (d : Cursor) → read n (moved d) ≡ moved_after (read n d)

  front-moved : (bytes : List ℕ) (o w : Spelled) → w ≡ moved_after o → with_front bytes w ≡ moved_after (with_front bytes o)
  front-moved bytes o w e = as-moved o w (λ xs. bytes ++ xs) e

  with_piece-moved : (read : ℕ → Cursor → Spelled) (q : Quote) (limit : Option ℕ) (count : ℕ) (c : Cursor) (piece : Piece) → Moves read
      → quoted.with_piece read q limit count (moved c) piece ≡ moved_after (quoted.with_piece read q limit count c piece)
  with_piece-moved read q limit count c (char bytes taken) moves =
      passed-moved (passes limit (count + length bytes)) ScalarLimit (with_front bytes (read (count + length bytes) (skip taken c))) (with_front bytes (read (count + length bytes) (skip taken (moved c))))
      (front-moved bytes (read (count + length bytes) (skip taken c)) (read (count + length bytes) (skip taken (moved c)))
      (ap (read (count + length bytes)) (skip-moved taken c) ∙ moves (count + length bytes) (skip taken c)))
  with_piece-moved read q limit count c (close taken) moves = ap {B = Spelled} (λ (d : Cursor). Ok ([], d)) (skip-moved taken c)
  with_piece-moved read q limit count c illegal moves = refl
  with_piece-moved read q limit count c cut moves = refl

  pieces-moved : (most : ℕ) (q : Quote) (limit : Option ℕ) (count : ℕ) (c : Cursor) → pieces_for most q limit count (moved c) ≡ moved_after (pieces_for most q limit count c)
  unfolding pieces_for
  pieces-moved zero q limit count c = refl
  pieces-moved (suc most) q limit count c = with_piece-moved (λ n d. pieces_for most q limit n d) q limit count c (piece_at q c.rest) (λ n d. pieces-moved most q limit n d)

  segment-moved : (q : Quote) (limit : Option ℕ) (count : ℕ) (c : Cursor) → segment_at q limit count (moved c) ≡ moved_after (segment_at q limit count c)
  unfolding segment_at
  segment-moved q limit count c =
      then-moved (pieces_for (suc (length c.rest)) q limit count c) (pieces_for (suc (length c.rest)) q limit count (moved c)) _ _ (pieces-moved (suc (length c.rest)) q limit count c)
      (λ s. passed-moved (not (q.in_clob || is_utf8 s.0)) BadText (Ok s) (Ok (s.0, moved s.1)) refl)

  abbrev pub moved_option : Option Cursor → Option Cursor
  moved_option o = option_map moved o

  quotes-moved : (q : Quote) (c : Cursor) (b : Bool) → (if b then Some (skip (length q.closer) (moved c)) else None) ≡ moved_option (if b then Some (skip (length q.closer) c) else None)
  quotes-moved q c true = ap Some (skip-moved (length q.closer) c)
  quotes-moved q c false = refl

  in_next-moved : (q : Quote) (o : Option Cursor) → quoted.in_next q (moved_option o) ≡ moved_option (quoted.in_next q o)
  in_next-moved q None = refl
  in_next-moved q (Some c) = quotes-moved q c (begins_with q.closer c.rest)

  between-moved : (in_clob : Bool) (c : Cursor) → quoted.between in_clob (moved c) ≡ moved_option (quoted.between in_clob c)
  between-moved true c = ap Some (skip-moved (length (run_of (first_is is_white) c.rest).0) c)
  between-moved false c = ap (λ (o : Placed Cursor). quoted.where_read o) (blanks-moved c) ∙ by (blanks c)
    where
      by : (o : Placed Cursor) → quoted.where_read (moved_cursor o) ≡ moved_option (quoted.where_read o)
      by (Ok d) = refl
      by (Err fault) = refl

  next-moved : (q : Quote) (c : Cursor) → quoted.next_segment q (moved c) ≡ moved_option (quoted.next_segment q c)
  next-moved q c = by q.is_long
    where
      by : (long : Bool) → (if long then quoted.in_next q (quoted.between q.in_clob (moved c)) else None) ≡ moved_option (if long then quoted.in_next q (quoted.between q.in_clob c) else None)
      by true = ap (quoted.in_next q) (between-moved q.in_clob c) ∙ in_next-moved q (quoted.between q.in_clob c)
      by false = refl

  with_segments-moved : (read : Cursor → Spelled) (s : List ℕ × Cursor) (o : Option Cursor) → ((d : Cursor) → read (moved d) ≡ moved_after (read d))
      → quoted.with_segments read (s.0, moved s.1) (moved_option o) ≡ moved_after (quoted.with_segments read s o)
  with_segments-moved read s None moves = refl
  with_segments-moved read s (Some d) moves = as-moved (read d) (read (moved d)) (λ xs. s.0 ++ xs) (moves d)

  segments-moved : (most : ℕ) (q : Quote) (limit : Option ℕ) (count : ℕ) (c : Cursor) → segments_for most q limit count (moved c) ≡ moved_after (segments_for most q limit count c)
  unfolding segments_for
  segments-moved zero q limit count c = refl
  segments-moved (suc most) q limit count c =
      then-moved (segment_at q limit count c) (segment_at q limit count (moved c)) _ _ (segment-moved q limit count c)
      (λ s. ap (quoted.with_segments (λ d. segments_for most q limit (count + length s.0) d) (s.0, moved s.1)) (next-moved q s.1)
      ∙ with_segments-moved (λ d. segments_for most q limit (count + length s.0) d) s (quoted.next_segment q s.1) (λ d. segments-moved most q limit (count + length s.0) d))

  pub text-moved : (q : Quote) (limit : Option ℕ) (c : Cursor) → text_at q limit (moved c) ≡ moved_after (text_at q limit c)
  text-moved q limit c = segments-moved (suc (length c.rest)) q limit 0 c

  -- ---- lobs

  abbrev moved_end : Result Cursor Reason → Result Cursor Reason
  moved_end (Ok c) = Ok (moved c)
  moved_end (Err why) = Err why

  closed-moved : (c : Cursor) → lob.closed_at (moved c) ≡ moved_end (lob.closed_at c)
  closed-moved c = by (lob.braces c.rest)
    where
      by : (o : Result (Unit {0}) Reason) → (o >> Ok (skip 2 (moved c))) ≡ moved_end (o >> Ok (skip 2 c))
      by (Ok x) = ap Ok (skip-moved 2 c)
      by (Err why) = refl

  with-moved : {A : Type 0} (a : A) (o w : Result Cursor Reason) → w ≡ moved_end o → (w >>= (λ d. Ok (a, d))) ≡ moved_after {A = A} (o >>= (λ d. Ok (a, d)))
  with-moved {A} a (Ok d) w e = ap {B = Result (A × Cursor) Reason} (λ (w : Result Cursor Reason). w >>= (λ d. Ok (a, d))) e
  with-moved {A} a (Err why) w e = ap {B = Result (A × Cursor) Reason} (λ (w : Result Cursor Reason). w >>= (λ d. Ok (a, d))) e

  last-moved : (group : List ℕ) (c : Cursor) → lob.last_group group (moved c) ≡ moved_after (lob.last_group group c)
  last-moved [] c = with-moved [] (lob.closed_at c) (lob.closed_at (moved c)) (closed-moved c)
  last-moved (b ∷ group) c = ap {B = Spelled} (λ (o : Result Cursor Reason). o >> Err BadLob) (closed-moved c) ∙ by (lob.closed_at c)
    where
      by : (o : Result Cursor Reason) → ◌≡◌ {A = Spelled} (moved_end o >> Err BadLob) (moved_after (o >> Err BadLob))
      by (Ok d) = refl
      by (Err why) = refl

  to-moved : (c : Cursor) (rest : List ℕ) → lob.after_to (moved c) rest ≡ moved (lob.after_to c rest)
  to-moved c rest =
      let place : c.place + far + (length c.rest - length rest) ≡ c.place + (length c.rest - length rest) + far = omega arith in
      ap (λ (p : ℕ). record { place = p; rest = rest }) place

  group-moved : (read : ℕ → Bool → Cursor → Spelled) (limit : Option ℕ) (count : ℕ) (padded : Bool) (group : List ℕ) (d : Cursor)
      → ((n : ℕ) (b : Bool) (d : Cursor) → read n b (moved d) ≡ moved_after (read n b d)) → of_group read limit count padded group (moved d) ≡ moved_after (of_group read limit count padded group d)
  group-moved read limit count padded group d moves =
      chosen-moved (nat_lt (length group) 4) (lob.last_group group d) (lob.group_bytes padded group >>= (λ bytes. four read limit count d bytes)) (lob.last_group group (moved d))
      (lob.group_bytes padded group >>= (λ bytes. four read limit count (moved d) bytes)) (last-moved group d) (by (lob.group_bytes padded group))
    where
      by : (o : Result (List ℕ) Reason) → (o >>= (λ bytes. four read limit count (moved d) bytes)) ≡ moved_after (o >>= (λ bytes. four read limit count d bytes))
      by (Ok bytes) =
          passed-moved (passes limit (count + length bytes)) ScalarLimit (with_front bytes (read (count + length bytes) (nat_lt (length bytes) 3) d))
          (with_front bytes (read (count + length bytes) (nat_lt (length bytes) 3) (moved d)))
          (front-moved bytes (read (count + length bytes) (nat_lt (length bytes) 3) d) (read (count + length bytes) (nat_lt (length bytes) 3) (moved d))
          (moves (count + length bytes) (nat_lt (length bytes) 3) d))
      by (Err why) = refl

  groups-moved : (most : ℕ) (limit : Option ℕ) (count : ℕ) (padded : Bool) (c : Cursor) → groups_for most limit count padded (moved c) ≡ moved_after (groups_for most limit count padded c)
  unfolding groups_for
  groups-moved zero limit count padded c = refl
  groups-moved (suc most) limit count padded c =
      ap (of_group (λ n b d. groups_for most limit n b d) limit count padded (group_of 4 c.rest).0) (to-moved c (group_of 4 c.rest).1)
      ∙ group-moved (λ n b d. groups_for most limit n b d) limit count padded (group_of 4 c.rest).0 (lob.after_to c (group_of 4 c.rest).1) (λ n b d. groups-moved most limit n b d)

  blob-moved : (limit : Option ℕ) (c : Cursor) → lob.blob_at {S = SymbolAt} limit (moved c) ≡ moved_after (lob.blob_at limit c)
  blob-moved limit c =
      as-moved (groups_for (suc (length c.rest)) limit 0 false c) (groups_for (suc (length c.rest)) limit 0 false (moved c)) value.blob (groups-moved (suc (length c.rest)) limit 0 false c)

  white-moved : (c : Cursor) → after_run (first_is is_white) (moved c) ≡ moved (after_run (first_is is_white) c)
  white-moved c = skip-moved (length (run_of (first_is is_white) c.rest).0) c

  clob_closed-moved : (is_long : Bool) (c : Cursor) → lob.clob_closed_at is_long (moved c) ≡ moved_end (lob.clob_closed_at is_long c)
  clob_closed-moved is_long c = by (is_long && lob.are_cut_quotes c.rest)
    where
      by : (b : Bool) → (refuse b Truncated >> lob.closed_at (moved c)) ≡ moved_end (refuse b Truncated >> lob.closed_at c)
      by true = refl
      by false = closed-moved c

  clob-moved : (limit : Option ℕ) (is_long : Bool) (c : Cursor) → lob.clob_at {S = SymbolAt} limit is_long (moved c) ≡ moved_after (lob.clob_at limit is_long c)
  clob-moved limit is_long c =
      then-moved (text_at q limit c) (text_at q limit (moved c)) _ _ (text-moved q limit c)
      (λ t. with-moved (value.clob t.0) (lob.clob_closed_at is_long (after_run (first_is is_white) t.1)) (lob.clob_closed_at is_long (after_run (first_is is_white) (moved t.1)))
      (ap (lob.clob_closed_at is_long) (white-moved t.1) ∙ clob_closed-moved is_long (after_run (first_is is_white) t.1)))
    where
      q : Quote
      q = if is_long then long_quote true else short_quote true

  lob-moved : (limit : Option ℕ) (c : Cursor) → lob_at {S = SymbolAt} limit (moved c) ≡ moved_after (lob_at limit c)
  unfolding lob_at
  lob-moved limit c = ap (lob.lob_in limit) (white-moved c) ∙ by (after_run (first_is is_white) c)
    where
      by : (d : Cursor) → lob.lob_in {S = SymbolAt} limit (moved d) ≡ moved_after (lob.lob_in limit d)
      by d =
          chosen-moved (begins_with (34 ∷ []) d.rest) (lob.clob_at limit false (skip 1 d)) _ (lob.clob_at limit false (skip 1 (moved d))) _
          (ap (lob.clob_at limit false) (skip-moved 1 d) ∙ clob-moved limit false (skip 1 d))
          (chosen-moved (begins_with (39 ∷ 39 ∷ 39 ∷ []) d.rest) (lob.clob_at limit true (skip 3 d)) (lob.blob_at limit d) (lob.clob_at limit true (skip 3 (moved d))) (lob.blob_at limit (moved d))
          (ap (lob.clob_at limit true) (skip-moved 3 d) ∙ clob-moved limit true (skip 3 d)) (blob-moved limit d))

  -- ---- tokens

  counted-moved : (limit : Option ℕ) (bytes : List ℕ) (c : Cursor) → counted limit bytes (moved c) ≡ moved_after (counted limit bytes c)
  counted-moved limit bytes c =
      passed-moved (passes limit (length bytes)) ScalarLimit (Ok (bytes, skip (length bytes) c)) (Ok (bytes, skip (length bytes) (moved c)))
      (ap {B = Spelled} (λ (d : Cursor). Ok (bytes, d)) (skip-moved (length bytes) c))

  means-moved : (x : List ℕ × Cursor) (o : Result Token Reason) → (o >>= (λ t. Ok (t, moved x.1))) ≡ moved_after {A = Token} (o >>= (λ t. Ok (t, x.1)))
  means-moved x (Ok t) = refl
  means-moved x (Err why) = refl

  mark-moved : (t : Token) (n : ℕ) (c : Cursor) → mark t n (moved c) ≡ moved_after (mark t n c)
  mark-moved t n c = ap {B = Result (Token × Cursor) Reason} (λ (d : Cursor). Ok (t, d)) (skip-moved n c)

  quoted-moved : (limit : Option ℕ) (n : ℕ) (c : Cursor) (q : Quote) (k : List ℕ → Token)
      → (text_at q limit (skip n (moved c)) >>= (λ t. Ok (k t.0, t.1))) ≡ moved_after {A = Token} (text_at q limit (skip n c) >>= (λ t. Ok (k t.0, t.1)))
  quoted-moved limit n c q k =
      as-moved (text_at q limit (skip n c)) (text_at q limit (skip n (moved c))) k (ap (text_at q limit) (skip-moved n c) ∙ text-moved q limit (skip n c))

  pub token-moved : (limit : Option ℕ) (first : First) (c : Cursor) → token_of limit first (moved c) ≡ moved_after (token_of limit first c)
  unfolding token_of
  token-moved limit a_run c =
      then-moved (counted limit (bytes_of in_run c.rest) c) (counted limit (bytes_of in_run c.rest) (moved c)) _ _ (counted-moved limit (bytes_of in_run c.rest) c) (λ x. means-moved x (run_token x.0))
  token-moved limit a_word c =
      then-moved (counted limit (word_of c.rest) c) (counted limit (word_of c.rest) (moved c)) _ _ (counted-moved limit (word_of c.rest) c) (λ x. means-moved x (word_token x.0))
  token-moved limit a_quoted c = quoted-moved limit 1 c symbol_quote (λ t. name true (value.Text t))
  token-moved limit a_short c = quoted-moved limit 1 c (short_quote false) text
  token-moved limit a_long c = quoted-moved limit 3 c (long_quote false) text
  token-moved limit a_lob c = as-moved (lob_at limit (skip 2 c)) (lob_at limit (skip 2 (moved c))) plain (ap (lob_at limit) (skip-moved 2 c) ∙ lob-moved limit (skip 2 c))
  token-moved limit an_operator c =
      as-moved (counted limit (bytes_of in_operator c.rest) c) (counted limit (bytes_of in_operator c.rest) (moved c)) operator (counted-moved limit (bytes_of in_operator c.rest) c)
  token-moved limit an_infinity c =
      passed-moved (passes limit 4) ScalarLimit (mark (float (Some (inf (has_minus c.rest)))) 4 c) (mark (float (Some (inf (has_minus c.rest)))) 4 (moved c)) (mark-moved (float (Some (inf (has_minus c.rest)))) 4 c)
  token-moved limit (a_begin kind) c = mark-moved (tokens.begin kind) 1 c
  token-moved limit (an_end kind) c = mark-moved (tokens.end kind) 1 c
  token-moved limit a_comma c = mark-moved tokens.comma 1 c
  token-moved limit a_colon c = mark-moved tokens.colon 1 c
  token-moved limit two_colons c = mark-moved tokens.colons 2 c
  token-moved limit no_token c = refl
