-- Bytes of which LF is the last, and what stands at their front whatever follows them.
use Rattle.std.proofs.Common.{◌≡◌, ℕ, zero, suc, ◌+◌, ◌<◌, ◌≤◌, Bool, true, false, not, ◌&&◌, ◌||◌, ◌==◌, List, [], ◌∷◌, ◌++◌, length, drop, codes, ◌⊎◌, inl, inr, Ok, Err, refl, sym, ap, ap₂, subst, ◌∙◌, arith}
use Rattle.std.proofs.lemmas.Bool.{and_parts, both_ways, eqb-true}
use Rattle.std.proofs.lemmas.List.{drop-append-le, length-drop}
use Rattle.ion_meter.specs.Sources.{Cursor, skip}
use Rattle.ion_value.specs.Digits.{first_is}
use Rattle.ion_value.specs.Name.{begins_with, is_identifier_byte, is_one_of, is_operator_byte}
use Rattle.ion_value.specs.Parts.{Placed}
use Rattle.ion_text_in.specs.Blanks.{Begins, white, line_comment, block_comment, no_blank, blank_at, begins_comment, is_comment, is_line_end, is_white, ends_block, here, blanks, blanks_at, in_line, opening, in_block, closing}
use Rattle.ion_text_in.specs.Firm.{ends_line}
use Rattle.ion_text_in.specs.Places.{run_of, after_run}
use Rattle.ion_text_in.specs.Token.{in_run, in_word, in_operator}
use Rattle.ion_text_in.proofs.After.{no-blanks}
use Rattle.ion_text_in.proofs.Meaning.{run-more, run-none}
use Rattle.ion_text_in.proofs.Shrinking.{NoBlank, blanks-within}

-- ---- lines

-- some bytes, the last of which is LF
pub data Line : List ℕ → Type 0 where
  last : {b : ℕ} → b ≡ 10 → Line (b ∷ [])
  later : {b : ℕ} {bytes : List ℕ} → Line bytes → Line (b ∷ bytes)

-- and maybe none
abbrev pub Lines : List ℕ → Type 0
Lines bytes = (bytes ≡ []) ⊎ Line bytes

line-of : (b : ℕ) (bytes : List ℕ) → ends_line (b ∷ bytes) ≡ true → Line (b ∷ bytes)
line-of b [] e = last (eqb-true b 10 e)
line-of b (c ∷ bytes) e = later (line-of c bytes e)

pub lines-of : (bytes : List ℕ) → ends_line bytes ≡ true → Lines bytes
lines-of [] e = inl refl
lines-of (b ∷ bytes) e = inr (line-of b bytes e)

pub line-some : (bytes : List ℕ) → Line bytes → 0 < length bytes
line-some _ (last e) = omega arith
line-some _ (later l) = omega arith

pub line-not : Line [] → ⊥
line-not l = elim l [ ]

pub line-next : (b : ℕ) (bytes : List ℕ) → Line (b ∷ bytes) → Lines bytes
line-next b _ (last e) = inl refl
line-next b _ (later l) = inr l

pub line-tail : (b : ℕ) (bytes : List ℕ) → Line (b ∷ bytes) → (b ≡ 10 → ⊥) → Line bytes
line-tail b _ (last e) non = absurd (non e)
line-tail b _ (later l) non = l

pub line-second : (b c : ℕ) (bytes : List ℕ) → Line (b ∷ c ∷ bytes) → Line (c ∷ bytes)
line-second b c bytes l = by (line-next b (c ∷ bytes) l)
  where
    by : Lines (c ∷ bytes) → Line (c ∷ bytes)
    by (inl e) = absurd (cc e)
    by (inr l) = l

pub lines-line : (b : ℕ) (bytes : List ℕ) → Lines (b ∷ bytes) → Line (b ∷ bytes)
lines-line b bytes (inl e) = absurd (cc e)
lines-line b bytes (inr l) = l

pub lines-next : (b : ℕ) (bytes : List ℕ) → Lines (b ∷ bytes) → Lines bytes
lines-next b bytes ls = line-next b bytes (lines-line b bytes ls)

pub line-drop : (n : ℕ) (bytes : List ℕ) → Line bytes → n < length bytes → Line (drop n bytes)
line-drop zero bytes l less = l
line-drop (suc n) _ (last e) less = absurd (omega (arith, less))
line-drop (suc n) _ (later {bytes = bytes} l) less = line-drop n bytes l (omega (arith, less))

pub drop-none : (n : ℕ) (bytes : List ℕ) → length bytes ≤ n → drop n bytes ≡ []
drop-none zero [] le = refl
drop-none zero (b ∷ bytes) le = absurd (omega (arith, le))
drop-none (suc n) [] le = refl
drop-none (suc n) (b ∷ bytes) le = drop-none n bytes (omega (arith, le))

-- a cursor further on, before a line's end
pub record Leads (c d : Cursor) : Type 0 where
  pub line : Line d.rest
  pub total : c.place + length c.rest ≡ d.place + length d.rest

pub leads-self : (c : Cursor) → Line c.rest → Leads c c
leads-self c l = record { line = l; total = refl }

pub leads-then : (c d e : Cursor) → Leads c d → Leads d e → Leads c e
leads-then c d e a b = record { line = b.line; total = a.total ∙ b.total }

pub leads-skip : (n : ℕ) (c : Cursor) → Line c.rest → n < length c.rest → Leads c (skip n c)
leads-skip n c l less = record { line = line-drop n c.rest l less; total = omega (arith, less, length-drop n c.rest) }

-- ---- certain bytes

-- LF is none of some bytes
abbrev pub NoLf : List ℕ → Type 0
NoLf [] = Unit {0}
NoLf (c ∷ cs) = ((c == 10) ≡ false) × NoLf cs

not-first : (c b : ℕ) → (c == 10) ≡ false → b ≡ 10 → (c == b) ≡ false
not-first c b non e = subst (λ (x : ℕ). (c == x) ≡ false) (sym e) non

pub begins-less : (cs bytes : List ℕ) → NoLf cs → Line bytes → begins_with cs bytes ≡ true → length cs < length bytes
begins-less [] bytes non l e = line-some bytes l
begins-less (c ∷ cs) _ non (last {b} is) e = absurd (both_ways (c == b) (not-first c b non.0 is) (and_parts (c == b) (begins_with cs []) e).0)
begins-less (c ∷ cs) _ non (later {b} {bytes} l) e = let more = begins-less cs bytes non.1 l (and_parts (c == b) (begins_with cs bytes) e).1 in omega (arith, more)

module _ (z : List ℕ) where
  -- a cursor after whose bytes others stand
  abbrev pub followed : Cursor → Cursor
  followed c = record { place = c.place; rest = c.rest ++ z }

  pub skip-followed : (n : ℕ) (c : Cursor) → n ≤ length c.rest → skip n (followed c) ≡ followed (skip n c)
  skip-followed n c le = ap (λ (rest : List ℕ). record { place = c.place + n; rest = rest }) (drop-append-le n c.rest z le)

  pub first-same : (test : ℕ → Bool) (bytes : List ℕ) → Line bytes → first_is test (bytes ++ z) ≡ first_is test bytes
  first-same test _ (last e) = refl
  first-same test _ (later l) = refl

  pub begins-same : (cs bytes : List ℕ) → NoLf cs → Line bytes → begins_with cs (bytes ++ z) ≡ begins_with cs bytes
  begins-same [] bytes non l = refl
  begins-same (c ∷ cs) _ non (last {b} e) = rw (not-first c b non.0 e) refl
  begins-same (c ∷ cs) _ non (later {b} {bytes} l) = ap (λ (others : Bool). (c == b) && others) (begins-same cs bytes non.1 l)

  -- ---- blanks

  blank-same : (b : ℕ) (bytes : List ℕ) → Line (b ∷ bytes) → blank_at b (bytes ++ z) ≡ blank_at b bytes
  blank-same b _ (last e) = subst (λ (b : ℕ). blank_at b z ≡ blank_at b []) (sym e) refl
  blank-same b _ (later (last e)) = refl
  blank-same b _ (later (later l)) = refl

  pub comment-same : (bytes : List ℕ) → Line bytes → begins_comment (bytes ++ z) ≡ begins_comment bytes
  comment-same [] l = elim l [ ]
  comment-same (b ∷ bytes) l = ap is_comment (blank-same b bytes l)

  not-lf : (b : ℕ) (bytes : List ℕ) (begins : Begins) → blank_at b bytes ≡ begins → (white ≡ begins → ⊥) → b ≡ 10 → ⊥
  not-lf b bytes begins is non e = non (subst (λ (b : ℕ). blank_at b bytes ≡ begins) e is)

  -- what stands after no blank
  pub bare-tail : (b : ℕ) (bytes : List ℕ) → Line (b ∷ bytes) → NoBlank (b ∷ bytes) → Line bytes
  bare-tail b bytes l none = line-tail b bytes l (not-lf b bytes no_blank none (λ e. cc e))

  -- blanks, and blanks with more bytes after them, which go on where the others end
  abbrev Goes : ℕ → ℕ → Placed Cursor → Placed Cursor → Type 0
  Goes p n (Ok d) w = (w ≡ blanks_at d.place (d.rest ++ z)) × Lines d.rest × (p + n ≡ d.place + length d.rest)
  Goes p n (Err fault) w = Unit {0}

  goes-on : (p n : ℕ) (o w : Placed Cursor) → Goes (suc p) n o w → Goes p (suc n) o w
  goes-on p n (Ok d) w g = (g.0, g.1, omega (arith, g.2))
  goes-on p n (Err fault) w g = tt

  goes-by : (p b : ℕ) (bytes : List ℕ) (begins : Begins) → Line (b ∷ bytes) → blank_at b bytes ≡ begins
      → Goes (suc p) (length bytes) (blanks_at (suc p) bytes) (blanks_at (suc p) (bytes ++ z))
      → (Line bytes → Goes (suc p) (length bytes) (in_line (suc p) bytes) (in_line (suc p) (bytes ++ z)))
      → Goes (suc p) (length bytes) (opening p (suc p) bytes) (opening p (suc p) (bytes ++ z))
      → Goes p (suc (length bytes)) (elim begins [ white ↦ blanks_at (suc p) bytes | line_comment ↦ in_line (suc p) bytes | block_comment ↦ opening p (suc p) bytes | no_blank ↦ here p (b ∷ bytes) ])
      (elim begins [ white ↦ blanks_at (suc p) (bytes ++ z) | line_comment ↦ in_line (suc p) (bytes ++ z) | block_comment ↦ opening p (suc p) (bytes ++ z) | no_blank ↦ here p (b ∷ (bytes ++ z)) ])
  goes-by p b bytes white l is all line block = goes-on p (length bytes) (blanks_at (suc p) bytes) (blanks_at (suc p) (bytes ++ z)) all
  goes-by p b bytes line_comment l is all line block =
      goes-on p (length bytes) (in_line (suc p) bytes) (in_line (suc p) (bytes ++ z)) (line (line-tail b bytes l (not-lf b bytes line_comment is (λ e. cc e))))
  goes-by p b bytes block_comment l is all line block = goes-on p (length bytes) (opening p (suc p) bytes) (opening p (suc p) (bytes ++ z)) block
  goes-by p b bytes no_blank l is all line block = (sym (no-blanks p (b ∷ (bytes ++ z)) (blank-same b bytes l ∙ is)), inr l, refl)

  -- a byte that ends a line, or not
  ends-by : (p b : ℕ) (bytes : List ℕ) (ends : Bool) (x y u v : Placed Cursor) → Line (b ∷ bytes) → (ends ≡ false → b ≡ 10 → ⊥)
      → Goes (suc p) (length bytes) x u → (Line bytes → Goes (suc p) (length bytes) y v)
      → Goes p (suc (length bytes)) (elim ends [ true ↦ x | false ↦ y ]) (elim ends [ true ↦ u | false ↦ v ])
  ends-by p b bytes true x y u v l non gx gy = goes-on p (length bytes) x u gx
  ends-by p b bytes false x y u v l non gx gy = goes-on p (length bytes) y v (gy (line-tail b bytes l (non refl)))

  lf-ends : (b : ℕ) → is_line_end b ≡ false → b ≡ 10 → ⊥
  lf-ends b off e = both_ways (is_line_end b) off (subst (λ (b : ℕ). is_line_end b ≡ true) (sym e) refl)

  -- a star that closes a block, or not
  closes-by : (p b : ℕ) (bytes : List ℕ) (closes : Bool) (x y u v : Placed Cursor) → Line (b ∷ bytes) → (closes ≡ true → b ≡ 10 → ⊥)
      → (Line bytes → Goes (suc p) (length bytes) x u) → Goes (suc p) (length bytes) y v
      → Goes p (suc (length bytes)) (elim closes [ true ↦ x | false ↦ y ]) (elim closes [ true ↦ u | false ↦ v ])
  closes-by p b bytes true x y u v l non gx gy = goes-on p (length bytes) x u (gx (line-tail b bytes l (non refl)))
  closes-by p b bytes false x y u v l non gx gy = goes-on p (length bytes) y v gy

  lf-closes-not : (b : ℕ) (bytes : List ℕ) → ends_block b bytes ≡ true → b ≡ 10 → ⊥
  lf-closes-not b bytes on e = both_ways (ends_block b bytes) (subst (λ (b : ℕ). ends_block b bytes ≡ false) (sym e) refl) on

  closes-same : (b : ℕ) (bytes : List ℕ) → Line (b ∷ bytes) → ends_block b (bytes ++ z) ≡ ends_block b bytes
  closes-same b _ (last e) = subst (λ (b : ℕ). ends_block b z ≡ ends_block b []) (sym e) refl
  closes-same b _ (later (last e)) = refl
  closes-same b _ (later (later l)) = refl

  mutual
    unfolding blanks_at in_line opening in_block closing

    blanks-go : (p : ℕ) (bytes : List ℕ) → Lines bytes → Goes p (length bytes) (blanks_at p bytes) (blanks_at p (bytes ++ z))
    blanks-go p [] ls = (refl, inl refl, refl)
    blanks-go p (b ∷ bytes) ls =
        let l : Line (b ∷ bytes) = lines-line b bytes ls in
        subst (λ (begins : Begins). Goes p (suc (length bytes)) (blanks_at p (b ∷ bytes))
        (elim begins as (λ _. Placed Cursor) [ white ↦ blanks_at (suc p) (bytes ++ z) | line_comment ↦ in_line (suc p) (bytes ++ z) | block_comment ↦ opening p (suc p) (bytes ++ z) | no_blank ↦ here p (b ∷ (bytes ++ z)) ]))
        (sym (blank-same b bytes l))
        (goes-by p b bytes (blank_at b bytes) l refl (blanks-go (suc p) bytes (line-next b bytes l)) (λ l. line-go (suc p) bytes l) (opening-go p (suc p) bytes (line-next b bytes l)))

    line-go : (p : ℕ) (bytes : List ℕ) → Line bytes → Goes p (length bytes) (in_line p bytes) (in_line p (bytes ++ z))
    line-go p [] l = absurd (line-not l)
    line-go p (b ∷ bytes) l =
        ends-by p b bytes (is_line_end b) (blanks_at (suc p) bytes) (in_line (suc p) bytes) (blanks_at (suc p) (bytes ++ z)) (in_line (suc p) (bytes ++ z)) l (lf-ends b)
        (blanks-go (suc p) bytes (line-next b bytes l)) (λ l. line-go (suc p) bytes l)

    opening-go : (start p : ℕ) (bytes : List ℕ) → Lines bytes → Goes p (length bytes) (opening start p bytes) (opening start p (bytes ++ z))
    opening-go start p [] ls = tt
    opening-go start p (b ∷ bytes) ls = goes-on p (length bytes) (in_block start (suc p) bytes) (in_block start (suc p) (bytes ++ z)) (block-go start (suc p) bytes (lines-next b bytes ls))

    block-go : (start p : ℕ) (bytes : List ℕ) → Lines bytes → Goes p (length bytes) (in_block start p bytes) (in_block start p (bytes ++ z))
    block-go start p [] ls = tt
    block-go start p (b ∷ bytes) ls =
        let l : Line (b ∷ bytes) = lines-line b bytes ls in
        subst (λ (closes : Bool). Goes p (suc (length bytes)) (in_block start p (b ∷ bytes)) (elim closes as (λ _. Placed Cursor) [ true ↦ closing (suc p) (bytes ++ z) | false ↦ in_block start (suc p) (bytes ++ z) ]))
        (sym (closes-same b bytes l))
        (closes-by p b bytes (ends_block b bytes) (closing (suc p) bytes) (in_block start (suc p) bytes) (closing (suc p) (bytes ++ z)) (in_block start (suc p) (bytes ++ z)) l (lf-closes-not b bytes)
        (λ l. closing-go (suc p) bytes l) (block-go start (suc p) bytes (line-next b bytes l)))

    closing-go : (p : ℕ) (bytes : List ℕ) → Line bytes → Goes p (length bytes) (closing p bytes) (closing p (bytes ++ z))
    closing-go p [] l = absurd (line-not l)
    closing-go p (b ∷ bytes) l = goes-on p (length bytes) (blanks_at (suc p) bytes) (blanks_at (suc p) (bytes ++ z)) (blanks-go (suc p) bytes (line-next b bytes l))

  -- after blanks there is a line or nothing, and more bytes change nothing before
  pub blanks-firm : (c d : Cursor) → Lines c.rest → blanks c ≡ Ok d
      → (blanks (followed c) ≡ blanks (followed d)) × Lines d.rest × (c.place + length c.rest ≡ d.place + length d.rest)
  blanks-firm c d ls e = subst (λ (o : Placed Cursor). Goes c.place (length c.rest) o (blanks_at c.place (c.rest ++ z))) e (blanks-go c.place c.rest ls)

  stand : (p : ℕ) (bytes : List ℕ) → Line bytes → NoBlank bytes → blanks_at p (bytes ++ z) ≡ here p (bytes ++ z)
  stand p [] l none = elim l [ ]
  stand p (b ∷ bytes) l none = no-blanks p (b ∷ (bytes ++ z)) (blank-same b bytes l ∙ none)

  pub blanks-stop : (c d : Cursor) → Lines c.rest → blanks c ≡ Ok d → Line d.rest → blanks (followed c) ≡ Ok (followed d)
  blanks-stop c d ls e l = (blanks-firm c d ls e).0 ∙ stand d.place d.rest l (blanks-within c d e).1

  -- ---- runs of bytes

  -- a test that more bytes do not change, and that LF does not pass
  pub record Steady (test : List ℕ → Bool) : Type 0 where
    pub same : (bytes : List ℕ) → Line bytes → test (bytes ++ z) ≡ test bytes
    pub ends : (rest : List ℕ) → test (10 ∷ rest) ≡ false

  pub word-steady : Steady in_word
  word-steady = record { same = λ bytes l. first-same is_identifier_byte bytes l; ends = λ rest. refl }

  run-same : (bytes : List ℕ) → Line bytes → in_run (bytes ++ z) ≡ in_run bytes
  run-same [] l = elim l [ ]
  run-same (b ∷ bytes) l = ap (λ (comment : Bool). not (is_one_of (codes "{}[](),\"'") b || is_white b || comment)) (comment-same (b ∷ bytes) l)

  pub run-steady : Steady in_run
  run-steady = record { same = run-same; ends = λ rest. refl }

  pub operator-steady : Steady in_operator
  operator-steady = record {
    same = λ bytes l. ap₂ (λ (x y : Bool). x && not y) (first-same is_operator_byte bytes l) (comment-same bytes l);
    ends = λ rest. refl;
  }

  -- a run, and the run with more bytes after it
  abbrev RunStays : List ℕ → List ℕ × List ℕ → List ℕ × List ℕ → Type 0
  RunStays bytes r w = (w ≡ (r.0, r.1 ++ z)) × Line r.1 × (length r.0 + length r.1 ≡ length bytes)

  run-by : (test : List ℕ → Bool) (b : ℕ) (bytes : List ℕ) (t : Bool) → test (b ∷ bytes) ≡ t → test (b ∷ (bytes ++ z)) ≡ t → Line (b ∷ bytes)
      → (t ≡ true → RunStays bytes (run_of test bytes) (run_of test (bytes ++ z))) → RunStays (b ∷ bytes) (run_of test (b ∷ bytes)) (run_of test (b ∷ (bytes ++ z)))
  run-by test b bytes true on onz l rest =
      let more = rest refl in
      rw (run-more test b bytes on, run-more test b (bytes ++ z) onz) (ap (λ (x : List ℕ × List ℕ). (b ∷ x.0, x.1)) more.0, more.1, omega (arith, more.2))
  run-by test b bytes false off offz l rest = rw (run-none test (b ∷ bytes) off, run-none test (b ∷ (bytes ++ z)) offz) (refl, l, omega arith)

  pub run-firm : (test : List ℕ → Bool) → Steady test → (bytes : List ℕ) → Line bytes → RunStays bytes (run_of test bytes) (run_of test (bytes ++ z))
  run-firm test is _ (last {b} e) =
      let off : test (b ∷ []) ≡ false = subst (λ (b : ℕ). test (b ∷ []) ≡ false) (sym e) (is.ends []) in
      run-by test b [] false off (is.same (b ∷ []) (last e) ∙ off) (last e) (λ non. absurd (cc non))
  run-firm test is _ (later {b} {bytes} l) = run-by test b bytes (test (b ∷ bytes)) refl (is.same (b ∷ bytes) (later l)) (later l) (λ _. run-firm test is bytes l)

  -- a run by a test of single bytes that does not go to the end
  head-by : (p : ℕ → Bool) (b : ℕ) (bytes : List ℕ) (t : Bool) → p b ≡ t → length (run_of (first_is p) (b ∷ bytes)).0 < suc (length bytes)
      → (length (run_of (first_is p) bytes).0 < length bytes → (run_of (first_is p) (bytes ++ z)).0 ≡ (run_of (first_is p) bytes).0)
      → (run_of (first_is p) (b ∷ (bytes ++ z))).0 ≡ (run_of (first_is p) (b ∷ bytes)).0
  head-by p b bytes true on less more =
      let fewer : suc (length (run_of (first_is p) bytes).0) < suc (length bytes) = subst (λ (r : List ℕ × List ℕ). length r.0 < suc (length bytes)) (run-more (first_is p) b bytes on) less in
      rw (run-more (first_is p) b bytes on, run-more (first_is p) b (bytes ++ z) on) (ap (λ (xs : List ℕ). b ∷ xs) (more (omega (arith, fewer))))
  head-by p b bytes false off less more = rw (run-none (first_is p) (b ∷ bytes) off, run-none (first_is p) (b ∷ (bytes ++ z)) off) refl

  head-run : (p : ℕ → Bool) (bytes : List ℕ) → length (run_of (first_is p) bytes).0 < length bytes → (run_of (first_is p) (bytes ++ z)).0 ≡ (run_of (first_is p) bytes).0
  head-run p [] less = absurd (omega (arith, less))
  head-run p (b ∷ bytes) less = head-by p b bytes (p b) refl less (λ less. head-run p bytes less)

  pub after-stays : (p : ℕ → Bool) (c : Cursor) → length (run_of (first_is p) c.rest).0 < length c.rest
      → after_run (first_is p) (followed c) ≡ followed (after_run (first_is p) c)
  after-stays p c less =
      ap (λ (xs : List ℕ). skip (length xs) (followed c)) (head-run p c.rest less)
      ∙ skip-followed (length (run_of (first_is p) c.rest).0) c (omega (arith, less))
