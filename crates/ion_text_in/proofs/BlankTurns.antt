-- Blanks that are passed over in parts: runs of bytes, and what stands between these.
use Rattle.std.proofs.Common.{◌≡◌, ℕ, zero, suc, ◌+◌, ◌<◌, Bool, true, false, ◌==◌, List, [], ◌∷◌, ◌++◌, length, take, drop, get_or, Option, Some, None, slice_get, Ok, MatchOption, not, ◌||◌, refl, sym, ap, subst, ◌∙◌, inl, inr, arith}
use Rattle.std.proofs.lemmas.Bool.{cases_Bool, and_parts, eqb-true, false≢true, not-false, not-true}
use Rattle.ion_meter.specs.Sources.{Cursor, skip}
use Rattle.ion_value.specs.Digits.{first_is, all_are}
use Rattle.ion_text_in.specs.declared.blank.Comment.{Comment}
use Rattle.ion_text_in.specs.declared.blank.Comment.TheVariants as comment
use Rattle.ion_text_in.specs.Blanks.{is_white, is_line_end, here, blanks_at, in_line, opening, in_block, closing}
use Rattle.ion_text_in.specs.Places.{run_of, after_run}
use Rattle.ion_text_in.specs.Meaning.{at}
use Rattle.ion_text_in.specs.Overrun.{begun, cut_at, ends_blanks, is_neither, overrun, stays_in, turned, within}
use Rattle.ion_text_in.proofs.Meaning.{run-more, run-none}
use Rattle.ion_text_in.proofs.Runs.{at-front, first-off, found-not, second-byte}
use Rattle.ion_text_in.proofs.BlankRuns.{stays-first, stays-over}

-- ---- after a run of bytes

next-place : (p n : ℕ) → p + suc n ≡ p + 1 + n
next-place p n = omega arith

no-more : (p : ℕ) → p + 0 ≡ p
no-more p = omega arith

two : (p : ℕ) → suc (suc p) ≡ p + 2
two p = omega arith

module _ (test : ℕ → Bool) where
  abbrev after : Cursor → Cursor
  after c = after_run (first_is test) c

  pub after-first : (p b : ℕ) (bytes : List ℕ) → test b ≡ true → after (at p (b ∷ bytes)) ≡ after (at (p + 1) bytes)
  after-first p b bytes on =
      ap (λ (z : List ℕ × List ℕ). skip (length z.0) (at p (b ∷ bytes))) (run-more (first_is test) b bytes on)
      ∙ ap (λ (n : ℕ). at n (drop (length (run_of (first_is test) bytes).0) bytes)) (next-place p (length (run_of (first_is test) bytes).0))

  pub after-over : (p : ℕ) (xs rest : List ℕ) → all_are test xs ≡ true → after (at p (xs ++ rest)) ≡ after (at (p + length xs) rest)
  after-over p [] rest all = ap (λ (n : ℕ). after (at n rest)) (sym (no-more p))
  after-over p (b ∷ xs) rest all =
      let parts = and_parts (test b) (all_are test xs) all in
      after-first p b (xs ++ rest) parts.0 ∙ after-over (p + 1) xs rest parts.1 ∙ ap (λ (n : ℕ). after (at n rest)) (sym (next-place p (length xs)))

  pub after-none : (p : ℕ) (bytes : List ℕ) → first_is test bytes ≡ false → after (at p bytes) ≡ at p bytes
  after-none p bytes none =
      ap (λ (z : List ℕ × List ℕ). skip (length z.0) (at p bytes)) (run-none (first_is test) bytes none)
      ∙ ap (λ (n : ℕ). at n bytes) (no-more p)

  -- none stands after it
  pub after-ends : (p : ℕ) (bytes : List ℕ) → first_is test (after (at p bytes)).rest ≡ false
  unfolding run_of
  after-ends p [] = refl
  after-ends p (b ∷ bytes) = elim (cases_Bool (test b)) [
    | inl on ↦ ap (λ (c : Cursor). first_is test c.rest) (after-first p b bytes on) ∙ after-ends (p + 1) bytes
    | inr off ↦ ap (λ (c : Cursor). first_is test c.rest) (after-none p (b ∷ bytes) off) ∙ off
  ]

-- of white space
abbrev pub after_white : Cursor → Cursor
after_white c = after_run (first_is is_white) c

pub white-first : (p b : ℕ) (bytes : List ℕ) → is_white b ≡ true → after_white (at p (b ∷ bytes)) ≡ after_white (at (p + 1) bytes)
white-first p b bytes white = after-first is_white p b bytes white

pub white-none : (p : ℕ) (bytes : List ℕ) → first_is is_white bytes ≡ false → after_white (at p bytes) ≡ at p bytes
white-none p bytes none = after-none is_white p bytes none

pub white-ends : (p : ℕ) (bytes : List ℕ) → first_is is_white (after_white (at p bytes)).rest ≡ false
white-ends p bytes = after-ends is_white p bytes

-- what is read on is read on from after it
pub within-after : (c : Comment) (start p : ℕ) (bytes : List ℕ) → within c start (at p bytes) ≡ within c start (after_run (first_is (stays_in c)) (at p bytes))
within-after c start p [] = ap (λ (d : Cursor). within c start d) (sym (after-none (stays_in c) p [] refl))
within-after c start p (b ∷ bytes) = elim (cases_Bool (stays_in c b)) [
  | inl on ↦ stays-first c start p b bytes on ∙ within-after c start (p + 1) bytes ∙ ap (λ (d : Cursor). within c start d) (sym (after-first (stays_in c) p b bytes on))
  | inr off ↦ ap (λ (d : Cursor). within c start d) (sym (after-none (stays_in c) p (b ∷ bytes) off))
]

-- ---- what stands after it

-- the end of the input
pub within-end : (c : Comment) (start p : ℕ) → within c start (at p []) ≡ overrun (cut_at c start) (at p [])
unfolding blanks_at in_line in_block
within-end comment.None start p = refl
within-end comment.Line start p = refl
within-end comment.Block start p = refl

pub no-slash : (p b : ℕ) (bytes : List ℕ) → is_white b ≡ false → (b == 47) ≡ false → blanks_at p (b ∷ bytes) ≡ here p (b ∷ bytes)
unfolding blanks_at
no-slash p b bytes dark other = rw (dark, other, blanks_at) refl

slash-alone : (p : ℕ) (bytes : List ℕ) → first_is (λ c. c == 47) bytes ≡ false → first_is (λ c. c == 42) bytes ≡ false → blanks_at p (47 ∷ bytes) ≡ here p (47 ∷ bytes)
unfolding blanks_at
slash-alone p bytes line block = rw (line, block, blanks_at) refl

pub line-begins : (p : ℕ) (bytes : List ℕ) → blanks_at p (47 ∷ 47 ∷ bytes) ≡ in_line (p + 2) bytes
unfolding blanks_at in_line
line-begins p bytes = ap (λ (n : ℕ). in_line n bytes) (two p)

pub block-begins : (p : ℕ) (bytes : List ℕ) → blanks_at p (47 ∷ 42 ∷ bytes) ≡ in_block p (p + 2) bytes
unfolding blanks_at opening
block-begins p bytes = ap (λ (n : ℕ). in_block p n bytes) (two p)

star-slash : (start p : ℕ) (bytes : List ℕ) → in_block start p (42 ∷ 47 ∷ bytes) ≡ blanks_at (p + 2) bytes
unfolding in_block closing
star-slash start p bytes = ap (λ (n : ℕ). blanks_at n bytes) (two p)

star-alone : (start p : ℕ) (bytes : List ℕ) → first_is (λ c. c == 47) bytes ≡ false → in_block start p (42 ∷ bytes) ≡ in_block start (p + 1) bytes
unfolding in_block
star-alone start p bytes none = rw (none, in_block) (ap (λ (n : ℕ). in_block start n bytes) (one p))
  where
    one : (p : ℕ) → suc p ≡ p + 1
    one p = omega arith

-- by the bytes that were looked at
eqb-not : (b n : ℕ) → (b ≡ n → ⊥) → (b == n) ≡ false
eqb-not b n other = elim (cases_Bool (b == n)) [ inl same ↦ absurd (other (eqb-true b n same)) | inr none ↦ none ]

pub found-other : (p b : ℕ) (bytes : List ℕ) → first_is is_white bytes ≡ false → slice_get bytes 0 ≡ Some b → (b ≡ 47 → ⊥) → blanks_at p bytes ≡ here p bytes
found-other p b [] dark first other = absurd (cc first)
found-other p b (c ∷ bytes) dark first other = let same : c ≡ b = cc first in no-slash p c bytes dark (eqb-not c 47 (λ e. other (sym same ∙ e)))

slash-other : (p : ℕ) (bytes : List ℕ) → slice_get bytes 0 ≡ Some 47 → (slice_get bytes 1 ≡ Some 47 → ⊥) → (slice_get bytes 1 ≡ Some 42 → ⊥) → blanks_at p bytes ≡ here p bytes
slash-other p [] first line block = absurd (cc first)
slash-other p (c ∷ []) first line block = let same : c ≡ 47 = cc first in rw same (slash-alone p [] refl refl)
slash-other p (c ∷ b ∷ bytes) first line block = let same : c ≡ 47 = cc first in
    rw same (slash-alone p (b ∷ bytes) (eqb-not b 47 (λ e. line (ap Some e))) (eqb-not b 42 (λ e. block (ap Some e))))

slash-line : (p : ℕ) (bytes : List ℕ) → slice_get bytes 0 ≡ Some 47 → slice_get bytes 1 ≡ Some 47 → blanks_at p bytes ≡ in_line (p + 2) (drop 2 bytes)
slash-line p bytes first second = ap (λ (l : List ℕ). blanks_at p l) (second-byte bytes 47 47 first second) ∙ line-begins p (drop 2 bytes)

slash-block : (p : ℕ) (bytes : List ℕ) → slice_get bytes 0 ≡ Some 47 → slice_get bytes 1 ≡ Some 42 → blanks_at p bytes ≡ in_block p (p + 2) (drop 2 bytes)
slash-block p bytes first second = ap (λ (l : List ℕ). blanks_at p l) (second-byte bytes 47 42 first second) ∙ block-begins p (drop 2 bytes)

line-ended : (p b : ℕ) (bytes : List ℕ) → is_line_end b ≡ true → slice_get bytes 0 ≡ Some b → in_line p bytes ≡ blanks_at (p + 1) (drop 1 bytes)
unfolding in_line
line-ended p b [] end first = absurd (cc first)
line-ended p b (c ∷ bytes) end first = let same : c ≡ b = cc first in rw (same, end, in_line) (ap (λ (n : ℕ). blanks_at n bytes) (one p))
  where
    one : (p : ℕ) → suc p ≡ p + 1
    one p = omega arith

star-is : (b : ℕ) → stays_in comment.Block b ≡ false → b ≡ 42
star-is b off = eqb-true b 42 (either (b == 42) off)
  where
    either : (b : Bool) → not (b || b) ≡ false → b ≡ true
    either true e = refl
    either false e = absurd (cc e)

pub star-then : (start p : ℕ) (bytes : List ℕ) → slice_get bytes 0 ≡ Some 42 → slice_get bytes 1 ≡ Some 47 → in_block start p bytes ≡ blanks_at (p + 2) (drop 2 bytes)
star-then start p bytes first second = ap (λ (l : List ℕ). in_block start p l) (second-byte bytes 42 47 first second) ∙ star-slash start p (drop 2 bytes)

pub star-other : (start p : ℕ) (bytes : List ℕ) → slice_get bytes 0 ≡ Some 42 → (slice_get bytes 1 ≡ Some 47 → ⊥) → in_block start p bytes ≡ in_block start (p + 1) (drop 1 bytes)
star-other start p [] first other = absurd (cc first)
star-other start p (c ∷ []) first other = let same : c ≡ 42 = cc first in rw same (star-alone start p [] refl)
star-other start p (c ∷ d ∷ bytes) first other =
    let same : c ≡ 42 = cc first in
    rw same (star-alone start p (d ∷ bytes) (eqb-not d 47 (λ e. other (ap (λ (n : ℕ). Some n) e))))

-- ---- by the two bytes

-- what is read on at some bytes is read on after so many of them
abbrev pub Turns : Comment → ℕ → Option ℕ → Comment × ℕ → Type 0
Turns old first second next =
    (start p : ℕ) (bytes : List ℕ) → slice_get bytes 0 ≡ Some first → slice_get bytes 1 ≡ second
    → within old start (at p bytes) ≡ within next.0 (begun old start p) (at (p + next.1) (drop next.1 bytes))

-- blanks end before them
abbrev pub Ends : Comment → ℕ → Option ℕ → Type 0
Ends old first second = (start p : ℕ) (bytes : List ℕ) → slice_get bytes 0 ≡ Some first → slice_get bytes 1 ≡ second → within old start (at p bytes) ≡ Ok (at p bytes)

turned-is : (old : Comment) (first : ℕ) (second : Option ℕ) → stays_in old first ≡ false → ends_blanks old first ≡ false → MatchOption (turned old second) (Ends old first second) (Turns old first second)
turned-is comment.None first None off goes = λ start p bytes f s. slash-other p bytes (f ∙ ap Some (eqb-true first 47 (not-false _ goes))) (λ e. cc (sym s ∙ e)) (λ e. cc (sym s ∙ e))
turned-is comment.None first (Some b) off goes =
    let slash = eqb-true first 47 (not-false _ goes) in
    elim (cases_Bool (b == 47)) [
      | inl line ↦ rw line (λ start p bytes f s. slash-line p bytes (f ∙ ap Some slash) (s ∙ ap Some (eqb-true b 47 line)))
      | inr other ↦ elim (cases_Bool (b == 42)) [
        | inl block ↦ rw (other, block) (λ start p bytes f s. slash-block p bytes (f ∙ ap Some slash) (s ∙ ap Some (eqb-true b 42 block)))
        | inr none ↦ rw (other, none) (λ start p bytes f s. slash-other p bytes (f ∙ ap Some slash) (λ e. found-not (Some b) 47 other (sym s ∙ e)) (λ e. found-not (Some b) 42 none (sym s ∙ e)))
      ]
    ]
turned-is comment.Line first second off goes = λ start p bytes f s. line-ended p first bytes (not-false _ off) f
turned-is comment.Block first None off goes = λ start p bytes f s. star-other start p bytes (f ∙ ap Some (star-is first off)) (λ e. cc (sym s ∙ e))
turned-is comment.Block first (Some b) off goes =
    elim (cases_Bool (b == 47)) [
      | inl slash ↦ rw slash (λ start p bytes f s. star-then start p bytes (f ∙ ap Some (star-is first off)) (s ∙ ap Some (eqb-true b 47 slash)))
      | inr other ↦ rw other (λ start p bytes f s. star-other start p bytes (f ∙ ap Some (star-is first off)) (λ e. found-not (Some b) 47 other (sym s ∙ e)))
    ]

pub turned-on : (old : Comment) (first : ℕ) (second : Option ℕ) (next : Comment × ℕ) → stays_in old first ≡ false → ends_blanks old first ≡ false → turned old second ≡ Some next → Turns old first second next
turned-on old first second next off goes e = subst (λ o. MatchOption o (Ends old first second) (Turns old first second)) e (turned-is old first second off goes)

pub turned-off : (old : Comment) (first : ℕ) (second : Option ℕ) → stays_in old first ≡ false → ends_blanks old first ≡ false → turned old second ≡ None → Ends old first second
turned-off old first second off goes e = subst (λ o. MatchOption o (Ends old first second) (Turns old first second)) e (turned-is old first second off goes)

-- a byte before which they end whatever follows
pub ends-before : (c : Comment) (start p first : ℕ) (bytes : List ℕ) → first_is (stays_in c) bytes ≡ false → ends_blanks c first ≡ true → slice_get bytes 0 ≡ Some first → within c start (at p bytes) ≡ Ok (at p bytes)
ends-before comment.None start p first bytes off ends f = found-other p first bytes off f (λ e. false≢true (sym (not-true _ ends) ∙ ap (λ (b : ℕ). b == 47) e))
ends-before comment.Line start p first bytes off ends f = absurd (cc ends)
ends-before comment.Block start p first bytes off ends f = absurd (cc ends)

-- ---- over the bytes of a slice

line-cut : (p n : ℕ) (bytes rest : List ℕ) → all_are (is_neither 10 13) (take n bytes) ≡ true → n < length bytes → first_is (is_neither 10 13) (drop n bytes) ≡ false
    → in_line p (take (suc n) bytes ++ rest) ≡ blanks_at (p + length (take (suc n) bytes)) rest
unfolding in_line
line-cut p n [] rest run less ends = absurd (omega (arith, less))
line-cut p zero (b ∷ bytes) rest run less ends =
    let end : is_line_end b ≡ true = from-not (is_line_end b) ends in
    rw (end, in_line) (ap (λ (n : ℕ). blanks_at n rest) (one p))
  where
    from-not : (b : Bool) → not b ≡ false → b ≡ true
    from-not true e = refl
    from-not false e = absurd (false≢true (sym e))

    one : (p : ℕ) → suc p ≡ p + 1
    one p = omega arith
line-cut p (suc n) (b ∷ bytes) rest run less ends =
    let parts = and_parts (is_neither 10 13 b) (all_are (is_neither 10 13) (take n bytes)) run in
    let on : is_line_end b ≡ false = not-true (is_line_end b) parts.0 in
    rw (on, in_line) (line-cut (suc p) n bytes rest parts.1 (omega (arith, less)) ends ∙ ap (λ (n : ℕ). blanks_at n rest) (onward p (length (take (suc n) bytes))))
  where
    onward : (p n : ℕ) → suc p + n ≡ p + suc n
    onward p n = omega arith

pub line-over-end : (p n : ℕ) (bytes rest : List ℕ) → all_are (is_neither 10 13) (take n bytes) ≡ true → n < length bytes → first_is (is_neither 10 13) (drop n bytes) ≡ false
    → in_line p (take (n + 1) bytes ++ rest) ≡ blanks_at (p + length (take (n + 1) bytes)) rest
line-over-end p n bytes rest run less ends =
    let one : n + 1 ≡ suc n = omega arith in
    subst (λ (k : ℕ). in_line p (take k bytes ++ rest) ≡ blanks_at (p + length (take k bytes)) rest) (sym one) (line-cut p n bytes rest run less ends)

pub block-over-run : (start p : ℕ) (xs rest : List ℕ) → all_are (is_neither 42 42) xs ≡ true → in_block start p (xs ++ rest) ≡ in_block start (p + length xs) rest
block-over-run start p xs rest all = stays-over comment.Block start p xs rest all

-- the star that ends a run of other bytes
pub star-stands : (bytes : List ℕ) (n : ℕ) → n < length bytes → first_is (is_neither 42 42) (drop n bytes) ≡ false → slice_get (drop n bytes) 0 ≡ Some 42
star-stands bytes n less ends =
    let front = at-front bytes n less in
    front ∙ ap Some (star-is (get_or bytes n 0) (first-off (is_neither 42 42) (drop n bytes) (get_or bytes n 0) front ends))
