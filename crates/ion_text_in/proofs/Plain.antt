-- A run of plain bytes in a text is a run of pieces.
use Rattle.std.proofs.Common.{◌≡◌, ℕ, suc, ◌+◌, inl, inr, Bool, true, false, not, ◌&&◌, ◌||◌, ◌==◌, nat_le, nat_lt, if◌then◌else◌, List, [], ◌∷◌, ◌++◌, length, Option, Ok, Err, refl, sym, ap, ◌∙◌, arith}
use Rattle.std.proofs.lemmas.Bool.{cases_Bool, and_parts, not-true, eqb-true, false≢true}
use Rattle.std.proofs.lemmas.Bool.Decides.{nat_tests}
use Rattle.ion_meter.specs.declared.fault.Reason.TheVariants.{ScalarLimit}
use Rattle.ion_value.specs.Digits.{all_are}
use Rattle.ion_value.specs.Name.{begins_with, is_one_of}
use Rattle.ion_value.specs.Parts.{refuse, ◌>>◌}
use Rattle.ion_text_in.specs.Limit.{passes}
use Rattle.ion_text_in.specs.Quoted as quoted
use Rattle.ion_text_in.specs.Quoted.{Quote, Piece, char, is_raw, piece_at, with_piece}
use Rattle.ion_text_in.specs.Meaning.{at}
use Rattle.ion_text_in.specs.Scanning.{Spelled, IsQuote, pieces, may_close, is_plain_byte, with_front, PlainBytesAreSpelled}
use Rattle.ion_text_in.proofs.Fuel.{pieces-first}
use Rattle.ion_text_in.proofs.TokenCuts.{passes-fewer}

-- ---- one byte

no-close : (closer : List ℕ) (b : ℕ) (bytes : List ℕ) → may_close closer b ≡ false → begins_with closer (b ∷ bytes) ≡ false
no-close [] b bytes e = absurd (cc e)
no-close (c ∷ closer) b bytes e = rw e refl

-- no end of a line
raw-char : (q : Quote) (b : ℕ) (bytes : List ℕ) → is_raw q b ≡ true → quoted.raw q b bytes ≡ char (b ∷ []) 1
raw-char q b bytes e = by-end (b == 10 || b == 13) (no-end ((and_parts (nat_le 32 b || is_one_of (9 ∷ 11 ∷ 12 ∷ []) b) (not q.in_clob || nat_lt b 128) e).0)) q.is_long
  where
    no-end : (nat_le 32 b || is_one_of (9 ∷ 11 ∷ 12 ∷ []) b) ≡ true → (b == 10 || b == 13) ≡ false
    no-end e = grind (arith, nat_tests)

    by-end : (end : Bool) → end ≡ false → (long : Bool) → (if long && end then char (10 ∷ []) (quoted.line_end_length b bytes) else (if is_raw q b then char (b ∷ []) 1 else quoted.illegal)) ≡ char (b ∷ []) 1
    by-end end none true = rw (none, e) refl
    by-end end none false = rw e refl

-- LF in a long text
line-char : (q : Quote) (b : ℕ) (bytes : List ℕ) → q.is_long ≡ true → b ≡ 10 → quoted.raw q b bytes ≡ char (b ∷ []) 1
line-char q b bytes long is = rw (long, is) refl

plain-char : (q : Quote) (b : ℕ) (bytes : List ℕ) → (is_raw q b || (q.is_long && b == 10)) ≡ true → quoted.raw q b bytes ≡ char (b ∷ []) 1
plain-char q b bytes e = elim (cases_Bool (is_raw q b)) [
  | inl raw ↦ raw-char q b bytes raw
  | inr none ↦
      let line = and_parts q.is_long (b == 10) (sym (ap (λ (raw : Bool). raw || (q.is_long && b == 10)) none) ∙ e) in
      line-char q b bytes line.0 (eqb-true b 10 line.1)
]

pub plain-piece : (q : Quote) (b : ℕ) (bytes : List ℕ) → is_plain_byte q b ≡ true → piece_at q (b ∷ bytes) ≡ char (b ∷ []) 1
unfolding piece_at
plain-piece q b bytes e =
    let both = and_parts (not (may_close q.closer b) && not (b == 92)) (is_raw q b || (q.is_long && b == 10)) e in
    let parts = and_parts (not (may_close q.closer b)) (not (b == 92)) both.0 in
    ap (λ (closes : Bool). if closes then quoted.close (length q.closer) else (if b == 92 then quoted.escape q.in_clob bytes else quoted.raw q b bytes))
    (no-close q.closer b bytes (not-true (may_close q.closer b) parts.0))
    ∙ ap (λ (escapes : Bool). if escapes then quoted.escape q.in_clob bytes else quoted.raw q b bytes) (not-true (b == 92) parts.1)
    ∙ plain-char q b bytes both.1

-- ---- a run of them

one-more : (count n : ℕ) → count + 1 + n ≡ count + suc n
one-more count n = omega arith

nothing-more : (n : ℕ) → n ≡ n + 0
nothing-more n = omega arith

-- the first, and then the others
plain-first : (q : Quote) (limit : Option ℕ) (count place b : ℕ) (rest : List ℕ) → IsQuote q → is_plain_byte q b ≡ true
    → pieces q limit count (at place (b ∷ rest)) ≡ (refuse (passes limit (count + 1)) ScalarLimit >> with_front (b ∷ []) (pieces q limit (count + 1) (at (place + 1) rest)))
plain-first q limit count place b rest is plain =
    pieces-first q limit count (at place (b ∷ rest)) is
    ∙ ap (λ (piece : Piece). with_piece (λ n d. pieces q limit n d) q limit count (at place (b ∷ rest)) piece) (plain-piece q b rest plain)

front-nothing : (o : Spelled) → o ≡ with_front [] o
front-nothing (Ok x) = refl
front-nothing (Err reason) = refl

front-both : (b : ℕ) (xs : List ℕ) (o : Spelled) → with_front (b ∷ []) (with_front xs o) ≡ with_front (b ∷ xs) o
front-both b xs (Ok x) = refl
front-both b xs (Err reason) = refl

plain-within : (q : Quote) (limit : Option ℕ) (count place : ℕ) (xs rest : List ℕ) → IsQuote q → all_are (is_plain_byte q) xs ≡ true → passes limit (count + length xs) ≡ false
    → pieces q limit count (at place (xs ++ rest)) ≡ with_front xs (pieces q limit (count + length xs) (at (place + length xs) rest))
plain-within q limit count place [] rest is plain within =
    front-nothing (pieces q limit count (at place rest))
    ∙ ap (λ (n : ℕ). with_front [] (pieces q limit n (at place rest))) (nothing-more count)
    ∙ ap (λ (p : ℕ). with_front [] (pieces q limit (count + 0) (at p rest))) (nothing-more place)
plain-within q limit count place (b ∷ xs) rest is plain within =
    let parts = and_parts (is_plain_byte q b) (all_are (is_plain_byte q) xs) plain in
    plain-first q limit count place b (xs ++ rest) is parts.0
    ∙ ap (λ (over : Bool). refuse over ScalarLimit >> with_front (b ∷ []) (pieces q limit (count + 1) (at (place + 1) (xs ++ rest))))
    (passes-fewer limit (count + 1) (count + suc (length xs)) (omega arith) within)
    ∙ ap (λ (o : Spelled). with_front (b ∷ []) o)
    (plain-within q limit (count + 1) (place + 1) xs rest is parts.1 (ap (passes limit) (one-more count (length xs)) ∙ within))
    ∙ front-both b xs (pieces q limit (count + 1 + length xs) (at (place + 1 + length xs) rest))
    ∙ ap (λ (n : ℕ). with_front (b ∷ xs) (pieces q limit n (at (place + 1 + length xs) rest))) (one-more count (length xs))
    ∙ ap (λ (p : ℕ). with_front (b ∷ xs) (pieces q limit (count + suc (length xs)) (at p rest))) (one-more place (length xs))

plain-over : (q : Quote) (limit : Option ℕ) (count place : ℕ) (xs rest : List ℕ) → IsQuote q → all_are (is_plain_byte q) xs ≡ true → passes limit count ≡ false → passes limit (count + length xs) ≡ true
    → pieces q limit count (at place (xs ++ rest)) ≡ Err ScalarLimit
plain-over q limit count place [] rest is plain free over = absurd (false≢true (sym free ∙ ap (passes limit) (nothing-more count) ∙ over))
plain-over q limit count place (b ∷ xs) rest is plain free over =
    let parts = and_parts (is_plain_byte q b) (all_are (is_plain_byte q) xs) plain in
    plain-first q limit count place b (xs ++ rest) is parts.0
    ∙ elim (cases_Bool (passes limit (count + 1))) [
      | inl now ↦ ap (λ (over : Bool). refuse over ScalarLimit >> with_front (b ∷ []) (pieces q limit (count + 1) (at (place + 1) (xs ++ rest)))) now
      | inr free ↦ ap (λ (over : Bool). refuse over ScalarLimit >> with_front (b ∷ []) (pieces q limit (count + 1) (at (place + 1) (xs ++ rest)))) free
          ∙ ap (λ (o : Spelled). with_front (b ∷ []) o) (plain-over q limit (count + 1) (place + 1) xs rest is parts.1 free (ap (passes limit) (one-more count (length xs)) ∙ over))
    ]

pub plain-spelled : PlainBytesAreSpelled
plain-spelled q limit count place xs rest is plain =
    record { within = plain-within q limit count place xs rest is plain; over = plain-over q limit count place xs rest is plain }
