-- A token in a line is the same whatever follows the line.
use Rattle.std.proofs.Common.{◌≡◌, ℕ, suc, ◌+◌, ◌<◌, Bool, true, false, not, ◌&&◌, ◌||◌, ◌==◌, if◌then◌else◌, List, [], ◌∷◌, ◌++◌, length, drop, codes, inl, inr, Option, Some, Result, Ok, Err, refl, sym, ap, ap₂, subst, ◌∙◌, arith}
use Rattle.std.proofs.lemmas.Bool.{and_parts, or_cases, both_ways}
use Rattle.std.proofs.lemmas.List.{drop-append-le, length-append}
use Rattle.std.specs.Str.{bytes_eq}
use lib.Ieee.{inf}
use Rattle.ion_meter.specs.declared.fault.Reason.{Reason}
use Rattle.ion_meter.specs.declared.fault.Reason.TheVariants.{ScalarLimit}
use Rattle.ion_meter.specs.Sources.{Cursor, skip}
use Rattle.ion_value.specs.Digits.{first_is, has_minus}
use Rattle.ion_value.specs.Name.{begins_with, is_identifier_start, is_identifier_byte, is_operator_byte}
use Rattle.ion_value.specs.Parts.{◌>>=◌}
use Rattle.ion_value.specs.Value as value
use Rattle.ion_value.specs.Value.{Scalar, SymbolAt}
use Rattle.ion_text_in.specs.Lob.{lob_at}
use Rattle.ion_text_in.specs.Limit.{passes}
use Rattle.ion_text_in.specs.Meaning.{at}
use Rattle.ion_text_in.specs.Places.{run_of}
use Rattle.ion_text_in.specs.Quoted.{Quote, symbol_quote, short_quote, long_quote, text_at}
use Rattle.ion_text_in.specs.Scanning.{IsQuote}
use Rattle.ion_text_in.specs.Token as tokens
use Rattle.ion_text_in.specs.Token.{First, a_word, a_quoted, a_short, a_long, a_run, a_lob, an_operator, an_infinity, a_begin, an_end, a_comma, a_colon, two_colons, no_token, begins_run, is_infinity, punctuation, first_at, Token, plain, float, name, text, operator, in_run, in_word, in_operator, bytes_of, word_of, with_type, counted, run_token, word_token, mark, token_of}
use Rattle.ion_text_in.proofs.FirmLobs.{lob-stays}
use Rattle.ion_text_in.proofs.FirmTexts.{Always, StaysIf, Stays, NoNext, stays-from, stays-given, stays-then, stays-as, stays-passed, text-stays}
use Rattle.ion_text_in.proofs.Lines.{Line, last, later, Leads, NoLf, begins-less, line-not, line-some, line-tail, line-drop, leads-skip, Steady, followed, skip-followed, first-same, begins-same, word-steady, run-steady, operator-steady, run-firm}

-- ---- how many bytes a token takes at least, and one more stands behind

abbrev pub Room : First → List ℕ → Type 0
Room a_long rest = 3 < length rest
Room a_lob rest = 2 < length rest
Room an_infinity rest = 4 < length rest
Room two_colons rest = 2 < length rest
Room first rest = 1 < length rest

room-if : (rest : List ℕ) (b : Bool) (x y : First) → (b ≡ true → Room x rest) → (b ≡ false → Room y rest) → Room (if b then x else y) rest
room-if rest true x y rx ry = rx refl
room-if rest false x y rx ry = ry refl

colon-room : (bytes : List ℕ) → Line bytes → first_is (λ c. c == 58) bytes ≡ true → 1 < length bytes
colon-room _ (last {b} e) on = absurd (both_ways (b == 58) (subst (λ (x : ℕ). (x == 58) ≡ false) (sym e) refl) on)
colon-room _ (later {bytes = bytes} l) on = omega (arith, line-some bytes l)

punctuation-room : (b : ℕ) (bytes : List ℕ) → Line bytes → 1 < length (b ∷ bytes) → Room (punctuation b bytes) (b ∷ bytes)
punctuation-room b bytes l one =
    let rest : List ℕ = b ∷ bytes in
    room-if rest (b == 123) _ _ (λ _. one) (λ _. room-if rest (b == 91) _ _ (λ _. one) (λ _. room-if rest (b == 40) _ _ (λ _. one)
    (λ _. room-if rest (b == 125) _ _ (λ _. one) (λ _. room-if rest (b == 93) _ _ (λ _. one) (λ _. room-if rest (b == 41) _ _ (λ _. one)
    (λ _. room-if rest (b == 44) a_comma _ (λ _. one) (λ _. room-if rest (b == 58) (if first_is (λ c. c == 58) bytes then two_colons else a_colon) no_token
    (λ _. room-if rest (first_is (λ c. c == 58) bytes) two_colons a_colon (λ two. let more = colon-room bytes l two in omega (arith, more)) (λ _. one)) (λ _. one))))))))

infinity-room : (rest : List ℕ) → Line rest → (begins_with (codes "+inf") rest || begins_with (codes "-inf") rest) ≡ true → 4 < length rest
infinity-room rest l e = elim (or_cases (begins_with (codes "+inf") rest) (begins_with (codes "-inf") rest) e) [
  | inl plus ↦ begins-less (codes "+inf") rest (refl, (refl, (refl, (refl, tt)))) l plus
  | inr minus ↦ begins-less (codes "-inf") rest (refl, (refl, (refl, (refl, tt)))) l minus
]

pub first-room : (sexp : Bool) (b : ℕ) (bytes : List ℕ) → Line bytes → Room (first_at sexp (b ∷ bytes)) (b ∷ bytes)
unfolding first_at
first-room sexp b bytes l =
    let rest : List ℕ = b ∷ bytes in
    let whole : Line (b ∷ bytes) = later l in
    let one : 1 < length rest = (let some = line-some bytes l in omega (arith, some)) in
    room-if rest (is_identifier_start b) a_word _ (λ _. one)
    (λ _. room-if rest (begins_run b bytes) a_run _ (λ _. one)
    (λ _. room-if rest (b == 34) a_short _ (λ _. one)
    (λ _. room-if rest (begins_with (39 ∷ 39 ∷ 39 ∷ []) rest) a_long _ (λ is. begins-less (39 ∷ 39 ∷ 39 ∷ []) rest (refl, (refl, (refl, tt))) whole is)
    (λ _. room-if rest (b == 39) a_quoted _ (λ _. one)
    (λ _. room-if rest (begins_with (codes "{{") rest) a_lob _ (λ is. begins-less (codes "{{") rest (refl, (refl, tt)) whole is)
    (λ _. room-if rest (is_infinity rest) an_infinity _ (λ is. infinity-room rest whole (and_parts (begins_with (codes "+inf") rest || begins_with (codes "-inf") rest) _ is).0)
    (λ _. room-if rest (sexp && is_operator_byte b) an_operator _ (λ _. one) (λ _. punctuation-room b bytes l one))))))))

module _ (z : List ℕ) where
  -- ---- which token begins

  infinity-same : (rest : List ℕ) → Line rest → is_infinity (rest ++ z) ≡ is_infinity rest
  infinity-same rest l = by (begins_with (codes "+inf") rest || begins_with (codes "-inf") rest) refl
    where
      same : (begins_with (codes "+inf") (rest ++ z) || begins_with (codes "-inf") (rest ++ z)) ≡ (begins_with (codes "+inf") rest || begins_with (codes "-inf") rest)
      same =
          ap₂ (λ (x y : Bool). x || y) (begins-same z (codes "+inf") rest (refl, (refl, (refl, (refl, tt)))) l)
          (begins-same z (codes "-inf") rest (refl, (refl, (refl, (refl, tt)))) l)

      by : (b : Bool) → (begins_with (codes "+inf") rest || begins_with (codes "-inf") rest) ≡ b → is_infinity (rest ++ z) ≡ is_infinity rest
      by true is =
          let less = infinity-room rest l is in
          ap₂ (λ (x y : Bool). x && not y) same
          (ap (λ (rest : List ℕ). first_is is_identifier_byte rest) (drop-append-le 4 rest z (omega (arith, less))) ∙ first-same z is_identifier_byte (drop 4 rest) (line-drop 4 rest l less))
      by false off =
          ap (λ (x : Bool). x && not (first_is is_identifier_byte (drop 4 (rest ++ z)))) (same ∙ off)
          ∙ sym (ap (λ (x : Bool). x && not (first_is is_identifier_byte (drop 4 rest))) off)

  pub first_at-same : (sexp : Bool) (b : ℕ) (bytes : List ℕ) → Line bytes → first_at sexp (b ∷ (bytes ++ z)) ≡ first_at sexp (b ∷ bytes)
  unfolding first_at
  first_at-same sexp b [] l = absurd (line-not l)
  first_at-same sexp b (c ∷ more) l =
      ap₂ (λ (long infinite : Bool).
      if is_identifier_start b then a_word
      else (if begins_run b (c ∷ more) then a_run
      else (if b == 34 then a_short
      else (if long then a_long
      else (if b == 39 then a_quoted
      else (if begins_with (codes "{{") (b ∷ c ∷ more) then a_lob
      else (if infinite then an_infinity
      else (if sexp && is_operator_byte b then an_operator
      else punctuation b (c ∷ more)))))))))
      (begins-same z (39 ∷ 39 ∷ 39 ∷ []) (b ∷ c ∷ more) (refl, (refl, (refl, tt))) (later l)) (infinity-same (b ∷ c ∷ more) (later l))

  -- ---- bytes that are counted

  counted-stays : (limit : Option ℕ) (c : Cursor) (bytes long : List ℕ) → long ≡ bytes → length bytes < length c.rest → Line c.rest
      → Stays z {A = List ℕ} c (counted limit bytes c) (counted limit long (followed z c))
  counted-stays limit c bytes long e less l =
      subst (λ (long : List ℕ). Stays z {A = List ℕ} c (counted limit bytes c) (counted limit long (followed z c))) (sym e)
      (stays-passed z Always c (passes limit (length bytes)) ScalarLimit (Ok (bytes, skip (length bytes) c)) (Ok (bytes, skip (length bytes) (followed z c)))
      (λ _. ap {B = Result (List ℕ × Cursor) Reason} (λ (d : Cursor). Ok (bytes, d)) (skip-followed z (length bytes) c (omega (arith, less))), leads-skip (length bytes) c l less))

  means-stays : (c : Cursor) (x : List ℕ × Cursor) (o : Result Token Reason) → Leads c x.1 → Stays z {A = Token} c (o >>= (λ t. Ok (t, x.1))) (o >>= (λ t. Ok (t, followed z x.1)))
  means-stays c x (Ok t) leads = (λ _. refl, leads)
  means-stays c x (Err why) leads = tt

  abbrev Front : List ℕ → List ℕ → List ℕ → Type 0
  Front rest front long = (long ≡ front) × (length front < length rest)

  run-front : (test : List ℕ → Bool) (b : ℕ) (bytes : List ℕ) → Steady z test → Line bytes → Front (b ∷ bytes) (bytes_of test (b ∷ bytes)) (bytes_of test (b ∷ (bytes ++ z)))
  run-front test b bytes is l =
      let run = run-firm z test is bytes l in
      (ap (λ (r : List ℕ × List ℕ). b ∷ r.0) run.0, (let some = line-some (run_of test bytes).1 run.1 in omega (arith, some, run.2)))

  no-point : (b : ℕ) → (b == 46) ≡ true → b ≡ 10 → ⊥
  no-point b is e = both_ways (b == 46) (subst (λ (x : ℕ). (x == 46) ≡ false) (sym e) refl) is

  type-same : (word after : List ℕ) → Line after → (with_type word (after ++ z) ≡ with_type word after) × (length (with_type word after) < length word + length after)
  type-same word [] l = absurd (line-not l)
  type-same word (b ∷ more) l = by (bytes_eq (codes "null") word && b == 46) refl
    where
      by : (t : Bool) → (bytes_eq (codes "null") word && b == 46) ≡ t
          → ((if t then word ++ 46 ∷ (run_of in_word (more ++ z)).0 else word) ≡ (if t then word ++ 46 ∷ (run_of in_word more).0 else word))
          × (length (if t then word ++ 46 ∷ (run_of in_word more).0 else word) < length word + suc (length more))
      by true e =
          let run = run-firm z in_word (word-steady z) more (line-tail b more l (no-point b (and_parts (bytes_eq (codes "null") word) (b == 46) e).1)) in (
            ap (λ (r : List ℕ × List ℕ). word ++ 46 ∷ r.0) run.0,
            (let some = line-some (run_of in_word more).1 run.1 in omega (arith, some, run.2, length-append word (46 ∷ (run_of in_word more).0))),
          )
      by false e = (refl, omega arith)

  word-front : (b : ℕ) (bytes : List ℕ) → Line bytes → Front (b ∷ bytes) (word_of (b ∷ bytes)) (word_of (b ∷ (bytes ++ z)))
  word-front b bytes l =
      let run = run-firm z in_word (word-steady z) bytes l in
      let typed = type-same (b ∷ (run_of in_word bytes).0) (run_of in_word bytes).1 run.1 in
      (ap (λ (r : List ℕ × List ℕ). with_type (b ∷ r.0) r.1) run.0 ∙ typed.0, omega (arith, typed.1, run.2))

  -- ---- tokens

  mark-stays : (t : Token) (n : ℕ) (c : Cursor) → Line c.rest → n < length c.rest → Stays z {A = Token} c (mark t n c) (mark t n (followed z c))
  mark-stays t n c l less = (λ _. ap {B = Result (Token × Cursor) Reason} (λ (d : Cursor). Ok (t, d)) (skip-followed z n c (omega (arith, less))), leads-skip n c l less)

  quoted-stays : (Q : Cursor → Type 0) (limit : Option ℕ) (n : ℕ) (c : Cursor) (q : Quote) (k : List ℕ → Token) → IsQuote q → NoLf q.closer → Line c.rest → n < length c.rest
      → ((d : Cursor) → Q d → NoNext z q d)
      → StaysIf z {A = Token} Q c (text_at q limit (skip n c) >>= (λ t. Ok (k t.0, t.1))) (text_at q limit (skip n (followed z c)) >>= (λ t. Ok (k t.0, t.1)))
  quoted-stays Q limit n c q k is free l less given =
      let leads : Leads c (skip n c) = leads-skip n c l less in
      subst (λ (d : Cursor). StaysIf z {A = Token} Q c (text_at q limit (skip n c) >>= (λ t. Ok (k t.0, t.1))) (text_at q limit d >>= (λ t. Ok (k t.0, t.1)))) (sym (skip-followed z n c (omega (arith, less))))
      (stays-as z Q c (text_at q limit (skip n c)) (text_at q limit (followed z (skip n c))) k
      (stays-from z Q c (skip n c) (text_at q limit (skip n c)) (text_at q limit (followed z (skip n c))) leads
      (stays-given z (NoNext z q) Q (skip n c) (text_at q limit (skip n c)) (text_at q limit (followed z (skip n c))) given (text-stays z q limit (skip n c) is free leads.line))))

  -- a long string may go on after the line, and no other token
  abbrev pub Calm : First → Cursor → Type 0
  Calm a_long c = NoNext z (long_quote false) c
  Calm first c = Unit {0}

  pub token-stays : (limit : Option ℕ) (first : First) (p b : ℕ) (bytes : List ℕ) → Line bytes → Room first (b ∷ bytes)
      → StaysIf z {A = Token} (Calm first) (at p (b ∷ bytes)) (token_of limit first (at p (b ∷ bytes))) (token_of limit first (at p (b ∷ (bytes ++ z))))
  unfolding token_of
  token-stays limit a_run p b bytes l room =
      let front = run-front in_run b bytes (run-steady z) l in
      stays-then z (Calm a_run) (at p (b ∷ bytes)) (counted limit (bytes_of in_run (b ∷ bytes)) (at p (b ∷ bytes))) (counted limit (bytes_of in_run (b ∷ (bytes ++ z))) (at p (b ∷ (bytes ++ z)))) _ _
      (counted-stays limit (at p (b ∷ bytes)) (bytes_of in_run (b ∷ bytes)) (bytes_of in_run (b ∷ (bytes ++ z))) front.0 front.1 (later l))
      (λ x leads. means-stays (at p (b ∷ bytes)) x (run_token x.0) leads)
  token-stays limit a_word p b bytes l room =
      let front = word-front b bytes l in
      stays-then z (Calm a_word) (at p (b ∷ bytes)) (counted limit (word_of (b ∷ bytes)) (at p (b ∷ bytes))) (counted limit (word_of (b ∷ (bytes ++ z))) (at p (b ∷ (bytes ++ z)))) _ _
      (counted-stays limit (at p (b ∷ bytes)) (word_of (b ∷ bytes)) (word_of (b ∷ (bytes ++ z))) front.0 front.1 (later l))
      (λ x leads. means-stays (at p (b ∷ bytes)) x (word_token x.0) leads)
  token-stays limit a_quoted p b bytes l room =
      quoted-stays (Calm a_quoted) limit 1 (at p (b ∷ bytes)) symbol_quote (λ t. name true (value.Text t)) (omega arith, omega arith) (refl, tt) (later l) room (λ d _ _. refl)
  token-stays limit a_short p b bytes l room =
      quoted-stays (Calm a_short) limit 1 (at p (b ∷ bytes)) (short_quote false) text (omega arith, omega arith) (refl, tt) (later l) room (λ d _ _. refl)
  token-stays limit a_long p b bytes l room =
      quoted-stays (Calm a_long) limit 3 (at p (b ∷ bytes)) (long_quote false) text (omega arith, omega arith) (refl, (refl, (refl, tt))) (later l) room (λ d given. given)
  token-stays limit a_lob p b bytes l room =
      let c : Cursor = at p (b ∷ bytes) in
      let leads : Leads c (skip 2 c) = leads-skip 2 c (later l) room in
      subst (λ (d : Cursor). Stays z {A = Token} c (lob_at limit (skip 2 c) >>= (λ l. Ok (plain l.0, l.1))) (lob_at limit d >>= (λ l. Ok (plain l.0, l.1)))) (sym (skip-followed z 2 c (omega (arith, room))))
      (stays-as z Always c (lob_at limit (skip 2 c)) (lob_at limit (followed z (skip 2 c))) plain
      (stays-from z Always c (skip 2 c) (lob_at limit (skip 2 c)) (lob_at limit (followed z (skip 2 c))) leads (lob-stays z limit (skip 2 c) leads.line)))
  token-stays limit an_operator p b bytes l room =
      let front = run-front in_operator b bytes (operator-steady z) l in
      stays-then z (Calm an_operator) (at p (b ∷ bytes)) (counted limit (bytes_of in_operator (b ∷ bytes)) (at p (b ∷ bytes))) (counted limit (bytes_of in_operator (b ∷ (bytes ++ z))) (at p (b ∷ (bytes ++ z)))) _ _
      (counted-stays limit (at p (b ∷ bytes)) (bytes_of in_operator (b ∷ bytes)) (bytes_of in_operator (b ∷ (bytes ++ z))) front.0 front.1 (later l))
      (λ x leads. (λ _. refl, leads))
  token-stays limit an_infinity p b bytes l room =
      stays-passed z (Calm an_infinity) (at p (b ∷ bytes)) (passes limit 4) ScalarLimit (mark (float (Some (inf (has_minus (b ∷ bytes))))) 4 (at p (b ∷ bytes)))
      (mark (float (Some (inf (has_minus (b ∷ (bytes ++ z)))))) 4 (at p (b ∷ (bytes ++ z)))) (mark-stays (float (Some (inf (has_minus (b ∷ bytes))))) 4 (at p (b ∷ bytes)) (later l) room)
  token-stays limit (a_begin kind) p b bytes l room = mark-stays (tokens.begin kind) 1 (at p (b ∷ bytes)) (later l) room
  token-stays limit (an_end kind) p b bytes l room = mark-stays (tokens.end kind) 1 (at p (b ∷ bytes)) (later l) room
  token-stays limit a_comma p b bytes l room = mark-stays tokens.comma 1 (at p (b ∷ bytes)) (later l) room
  token-stays limit a_colon p b bytes l room = mark-stays tokens.colon 1 (at p (b ∷ bytes)) (later l) room
  token-stays limit two_colons p b bytes l room = mark-stays tokens.colons 2 (at p (b ∷ bytes)) (later l) room
  token-stays limit no_token p b bytes l room = tt
