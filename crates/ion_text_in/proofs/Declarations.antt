-- Tokens that are no version marker, and that no declaration of a symbol table begins with.
use Rattle.std.proofs.Common.{◌≡◌, ◌≢◌, ℕ, suc, ◌+◌, ◌-◌, ◌^◌, ◌<◌, ◌≤◌, Bool, true, false, not, ◌&&◌, ◌||◌, ◌==◌, if◌then◌else◌, List, [], ◌∷◌, ◌++◌, length, take, drop, codes, Option, Some, None, Result, Ok, Err, refl, sym, ap, subst, ◌∙◌, arith}
use Rattle.std.proofs.lemmas.Bool.{eqb-true}
use Rattle.std.proofs.lemmas.List.{length-take-le}
use Rattle.std.specs.Result.{IfOk}
use Rattle.std.specs.Str.{bytes_eq, is_utf8}
use lib.Ieee.{inf}
use Rattle.ion_meter.specs.declared.fault.Reason.{Reason}
use Rattle.ion_meter.specs.declared.fault.Reason.TheVariants.{BadText, ScalarLimit}
use Rattle.ion_meter.specs.Sources.{Cursor, skip}
use Rattle.ion_value.specs.Digits.{first_is, has_minus}
use Rattle.ion_value.specs.Name.{Keyword, a_null, keyword, begins_with, is_identifier_start, is_operator_byte}
use Rattle.ion_value.specs.Parts.{◌>>=◌}
use Rattle.ion_value.specs.Scalar.{scalar_of_run}
use Rattle.ion_value.specs.Value as value
use Rattle.ion_value.specs.Value.{Scalar, SymbolAt}
use Rattle.ion_text_in.specs.Limit.{passes}
use Rattle.ion_text_in.specs.Lob.{lob_at}
use Rattle.ion_text_in.specs.Meaning.{at}
use Rattle.ion_text_in.specs.Places.{run_of}
use Rattle.ion_text_in.specs.Quoted as quoted
use Rattle.ion_text_in.specs.Quoted.{symbol_quote, segment_at, text_at}
use Rattle.ion_text_in.specs.Scanners.{Shows}
use Rattle.ion_text_in.specs.Token as tokens
use Rattle.ion_text_in.specs.Token.{First, Token, a_word, a_quoted, begins_run, by_keyword, bytes_of, counted, first_at, in_operator, in_run, in_word, is_infinity, punctuation, token_of, word_of, word_token}
use Rattle.ion_text_in.specs.Views.{word_token_of}
use Rattle.ion_text_in.specs.declared.scanned.Scanned.TheVariants.{Whole}
use Rattle.ion_text_in.specs.declared.word.Word.{Word}
use Rattle.ion_text_in.specs.declared.word.Word.TheVariants as word
use Rattle.ion_text_in.specs.Waiting.{IsOfNoTable, DeclaresNone, NoneIsDeclared}
use Rattle.ion_text_in.proofs.RunTokens.{if-scalar}
use Rattle.ion_text_in.proofs.SegmentTexts.{text-first}
use Rattle.ion_value.proofs.WentWell.{if-any, if-passed, if-then}

abbrev is_dollar : ℕ → Bool
is_dollar b = b == 36

-- a dollar sign or a backslash
abbrev may_be_dollar : ℕ → Bool
may_be_dollar b = b == 36 || b == 92

abbrev limit : Option ℕ
limit = Some (2 ^ 64 - 1)

-- ---- symbols

abbrev text_in : value.Symbol → List ℕ
text_in (value.Text bytes) = bytes
text_in (value.Id id) = []

abbrev id_in : value.Symbol → ℕ
id_in (value.Text bytes) = 0
id_in (value.Id id) = id

other-id : (id : ℕ) → id ≢ 3 → IsOfNoTable (value.Id id)
other-id id other = record {
  id = λ same. other (ap id_in same);
  text = λ same. absurd (cc same);
  version = λ same. absurd (cc same);
}

-- one without a dollar sign in front
other-text : (bytes : List ℕ) → first_is is_dollar bytes ≡ false → IsOfNoTable (value.Text bytes)
other-text bytes dollar = record {
  id = λ same. absurd (cc same);
  text = λ same. let is : bytes ≡ codes "$ion_symbol_table" = ap text_in same in absurd (cc (sym dollar ∙ ap (first_is is_dollar) is));
  version = λ same. let is : bytes ≡ codes "$ion_1_0" = ap text_in same in absurd (cc (sym dollar ∙ ap (first_is is_dollar) is));
}

-- one of more bytes
long-text : (bytes : List ℕ) → 17 < length bytes → IsOfNoTable (value.Text bytes)
long-text bytes many = record {
  id = λ same. absurd (cc same);
  text = λ same. let long : length bytes ≡ 17 = ap length (ap text_in same) in absurd (omega (arith, many, long));
  version = λ same. let long : length bytes ≡ 8 = ap length (ap text_in same) in absurd (omega (arith, many, long));
}

-- ---- words after a dollar sign

first-dollar : (in_sexp : Bool) (b : ℕ) (bytes : List ℕ) → is_dollar b ≡ true → first_at in_sexp (b ∷ bytes) ≡ a_word
unfolding first_at
first-dollar in_sexp b bytes is = subst (λ b. first_at in_sexp (b ∷ bytes) ≡ a_word) (sym (eqb-true b 36 is)) refl

shown : (bytes : List ℕ) (w : Word) (n : ℕ) → first_is is_dollar bytes ≡ true
    → Shows (word_token_of (take n bytes)) bytes (Whole w n) (token_of limit a_word) → DeclaresNone (word_token_of (take n bytes) w) → NoneIsDeclared bytes
shown [] w n dollar shows none = absurd (cc dollar)
shown (b ∷ bytes) w n dollar shows none = λ in_sexp place more.
    subst (λ r. IfOk r (λ read. DeclaresNone read.0))
    (sym (ap (λ (f : First). token_of limit f (at place (b ∷ (bytes ++ more)))) (first-dollar in_sexp b (bytes ++ more) dollar) ∙ shows.1 place more)) none

pub shown-id : (bytes : List ℕ) (w : Word) (id n : ℕ) → w ≡ word.Id id → first_is (λ b. b == 36) bytes ≡ true
    → Shows (word_token_of (take n bytes)) bytes (Whole w n) (token_of (Some (2 ^ 64 - 1)) a_word) → id ≢ 3 → NoneIsDeclared bytes
shown-id bytes w id n is dollar shows other =
    shown bytes w n dollar shows (subst (λ (w : Word). DeclaresNone (word_token_of (take n bytes) w)) (sym is) (other-id id other))

pub shown-long : (bytes : List ℕ) (w : Word) (n : ℕ) → w ≡ word.Name → first_is (λ b. b == 36) bytes ≡ true
    → Shows (word_token_of (take n bytes)) bytes (Whole w n) (token_of (Some (2 ^ 64 - 1)) a_word) → 17 < n → NoneIsDeclared bytes
shown-long bytes w n is dollar shows many =
    let long : length (take n bytes) ≡ n = length-take-le n bytes shows.0 in
    shown bytes w n dollar shows (subst (λ (w : Word). DeclaresNone (word_token_of (take n bytes) w)) (sym is) (long-text (take n bytes) (omega (arith, many, long))))

-- ---- words that begin with another byte

word-first : (b : ℕ) (bytes : List ℕ) → is_dollar b ≡ false → first_is is_dollar (word_of (b ∷ bytes)) ≡ false
word-first b bytes other = by_type (bytes_eq (codes "null") (b ∷ (run_of in_word bytes).0) && first_is (λ b. b == 46) (run_of in_word bytes).1)
  where
    by_type : (typed : Bool) → first_is is_dollar (if typed then (b ∷ (run_of in_word bytes).0) ++ 46 ∷ (run_of in_word (drop 1 (run_of in_word bytes).1)).0 else b ∷ (run_of in_word bytes).0) ≡ false
    by_type true = other
    by_type false = other

word-none : (w : List ℕ) (after : Cursor) → first_is is_dollar w ≡ false → IfOk (word_token w >>= (λ t. Ok (t, after))) (λ (read : Token × Cursor). DeclaresNone read.0)
unfolding word_token
word-none w after other = by (keyword w)
  where
    by : (k : Option Keyword) → IfOk (by_keyword k w >>= (λ t. Ok (t, after))) (λ (read : Token × Cursor). DeclaresNone read.0)
    by None = rw other (other-text w other)
    by (Some (a_null None)) = tt
    by k = tt

-- ---- symbols in quotes

or_parts : (x y : Bool) → (x || y) ≡ false → (x ≡ false) × (y ≡ false)
or_parts true y e = absurd (cc e)
or_parts false y e = (refl, e)

-- their first byte is the one that stands first, if one does
first-piece : (later : ℕ → Cursor → Result (List ℕ × Cursor) Reason) (c : Cursor) (bytes : List ℕ) → first_is may_be_dollar bytes ≡ false
    → IfOk (quoted.with_piece later symbol_quote limit 0 c (quoted.piece_at symbol_quote bytes)) (λ s. first_is is_dollar s.0 ≡ false)
unfolding quoted.piece_at
first-piece later c [] other = tt
first-piece later c (b ∷ bytes) other = by (begins_with (39 ∷ []) (b ∷ bytes))
  where
    Q : quoted.Piece → Type 0
    Q p = IfOk (quoted.with_piece later symbol_quote limit 0 c p) (λ s. first_is is_dollar s.0 ≡ false)

    dollar : is_dollar b ≡ false
    dollar = (or_parts (b == 36) (b == 92) other).0

    escape : (b == 92) ≡ false
    escape = (or_parts (b == 36) (b == 92) other).1

    by_raw : (raw : Bool) → Q (if raw then quoted.char (b ∷ []) 1 else quoted.illegal)
    by_raw true = if-passed (λ (s : List ℕ × Cursor). first_is is_dollar s.0 ≡ false) (passes limit (0 + length (b ∷ []))) ScalarLimit
        (later (0 + length (b ∷ [])) (skip 1 c) >>= (λ others. Ok ((b ∷ []) ++ others.0, others.1)))
        (λ _. if-any _ (later (0 + length (b ∷ [])) (skip 1 c)) _ (λ others. dollar))
    by_raw false = tt

    by : (closes : Bool) → Q (if closes then quoted.close 1 else (if b == 92 then quoted.escape false bytes else quoted.raw symbol_quote b bytes))
    by true = refl
    by false = rw escape (by_raw (quoted.is_raw symbol_quote b))

quoted-first : (c : Cursor) → first_is may_be_dollar c.rest ≡ false → IfOk (text_at symbol_quote limit c) (λ t. first_is is_dollar t.0 ≡ false)
unfolding segment_at quoted.pieces_for
quoted-first c other = rw (text-first symbol_quote limit c refl)
    (if-then (λ s. first_is is_dollar s.0 ≡ false) _ (quoted.pieces_for (suc (length c.rest)) symbol_quote limit 0 c) _
    (first-piece (λ n d. quoted.pieces_for (length c.rest) symbol_quote limit n d) c c.rest other) (λ s first. if-passed (λ (s : List ℕ × Cursor). first_is is_dollar s.0 ≡ false) (not (is_utf8 s.0)) BadText (Ok s) (λ _. first)))

-- ---- tokens of every kind

abbrev Of : Cursor → First → Type 0
Of c f = IfOk (token_of limit f c) (λ read. DeclaresNone read.0)

kind-none : (f : First) (b : ℕ) (bytes : List ℕ) (place : ℕ) → is_dollar b ≡ false → (f ≡ a_quoted → first_is may_be_dollar bytes ≡ false) → Of (at place (b ∷ bytes)) f
unfolding token_of
kind-none tokens.a_run b bytes place other quotes = if-any _ (counted limit (bytes_of in_run (b ∷ bytes)) (at place (b ∷ bytes))) _ (λ r. by r.1 r.0 (scalar_of_run r.0))
  where
    is : (o : Result (Scalar SymbolAt) Reason) → IfOk o (λ v. DeclaresNone (tokens.plain v))
    is (Ok v) = tt
    is (Err why) = tt

    by : (c : Cursor) (run : List ℕ) (o : Result (Scalar SymbolAt) Reason) → IfOk (tokens.scalar_token run o >>= (λ t. Ok (t, c))) (λ (read : Token × Cursor). DeclaresNone read.0)
    by c run o = if-then DeclaresNone (λ (read : Token × Cursor). DeclaresNone read.0) (tokens.scalar_token run o) _ (if-scalar DeclaresNone run o (is o) tt) (λ t h. h)
kind-none a_word b bytes place other quotes =
    if-then (λ r. first_is is_dollar r.0 ≡ false) _ (counted limit (word_of (b ∷ bytes)) (at place (b ∷ bytes))) _
    (if-passed _ (passes limit (length (word_of (b ∷ bytes)))) ScalarLimit _ (λ _. word-first b bytes other)) (λ r first. word-none r.0 r.1 first)
kind-none a_quoted b bytes place other quotes = if-then _ _ (text_at symbol_quote limit (at (place + 1) bytes)) _ (quoted-first (at (place + 1) bytes) (quotes refl)) (λ t first. other-text t.0 first)
kind-none tokens.a_short b bytes place other quotes = if-any _ (text_at (quoted.short_quote false) limit (skip 1 (at place (b ∷ bytes)))) _ (λ r. tt)
kind-none tokens.a_long b bytes place other quotes = if-any _ (text_at (quoted.long_quote false) limit (skip 3 (at place (b ∷ bytes)))) _ (λ r. tt)
kind-none tokens.a_lob b bytes place other quotes = if-any _ (lob_at limit (skip 2 (at place (b ∷ bytes)))) _ (λ r. tt)
kind-none tokens.an_operator b bytes place other quotes = if-any _ (counted limit (bytes_of in_operator (b ∷ bytes)) (at place (b ∷ bytes))) _ (λ r. tt)
kind-none tokens.an_infinity b bytes place other quotes = if-passed (λ (read : Token × Cursor). DeclaresNone read.0) (passes limit 4) ScalarLimit (tokens.mark (tokens.float (Some (inf (has_minus (b ∷ bytes))))) 4 (at place (b ∷ bytes))) (λ _. tt)
kind-none tokens.no_token b bytes place other quotes = tt
kind-none mark b bytes place other quotes = tt

-- ---- bytes

if-quoted : (X : Type 0) (c : Bool) (f g : First) → (c ≡ true → f ≡ a_quoted → X) → (g ≡ a_quoted → X) → (if c then f else g) ≡ a_quoted → X
if-quoted X true f g one other e = one refl e
if-quoted X false f g one other e = other e

punctuation-quoted : (X : Type 0) (b : ℕ) (bytes : List ℕ) → punctuation b bytes ≡ a_quoted → X
punctuation-quoted X b bytes =
    if-quoted X (b == 123) _ _ (λ _ e. absurd (cc e)) (if-quoted X (b == 91) _ _ (λ _ e. absurd (cc e)) (if-quoted X (b == 40) _ _ (λ _ e. absurd (cc e))
    (if-quoted X (b == 125) _ _ (λ _ e. absurd (cc e)) (if-quoted X (b == 93) _ _ (λ _ e. absurd (cc e)) (if-quoted X (b == 41) _ _ (λ _ e. absurd (cc e))
    (if-quoted X (b == 44) _ _ (λ _ e. absurd (cc e)) (if-quoted X (b == 58) _ _
    (λ _. if-quoted X (first_is (λ c. c == 58) bytes) _ _ (λ _ e. absurd (cc e)) (λ e. absurd (cc e))) (λ e. absurd (cc e)))))))))

quoted-mark : (in_sexp : Bool) (b : ℕ) (bytes : List ℕ) → first_at in_sexp (b ∷ bytes) ≡ a_quoted → (b == 39) ≡ true
unfolding first_at
quoted-mark in_sexp b bytes =
    let all : List ℕ = b ∷ bytes in
    let X : Type 0 = (b == 39) ≡ true in
    if-quoted X (is_identifier_start b) _ _ (λ _ e. absurd (cc e)) (if-quoted X (begins_run b bytes) _ _ (λ _ e. absurd (cc e)) (if-quoted X (b == 34) _ _ (λ _ e. absurd (cc e))
    (if-quoted X (begins_with (39 ∷ 39 ∷ 39 ∷ []) all) _ _ (λ _ e. absurd (cc e)) (if-quoted X (b == 39) _ _ (λ is _. is)
    (if-quoted X (begins_with (codes "{{") all) _ _ (λ _ e. absurd (cc e)) (if-quoted X (is_infinity all) _ _ (λ _ e. absurd (cc e))
    (if-quoted X (in_sexp && is_operator_byte b) _ _ (λ _ e. absurd (cc e)) (punctuation-quoted X b bytes))))))))

pub none-declared : (bytes : List ℕ) → 2 ≤ length bytes → first_is (λ b. b == 36) bytes ≡ false
    → (first_is (λ b. b == 39) bytes ≡ true → first_is (λ b. b == 36 || b == 92) (drop 1 bytes) ≡ false) → NoneIsDeclared bytes
none-declared [] some other quotes = absurd (omega (arith, some))
none-declared (b ∷ []) some other quotes = absurd (omega (arith, some))
none-declared (b ∷ c ∷ bytes) some other quotes = λ in_sexp place more.
    kind-none (first_at in_sexp (b ∷ c ∷ (bytes ++ more))) b (c ∷ (bytes ++ more)) place other (λ is. quotes (quoted-mark in_sexp b (c ∷ (bytes ++ more)) is))
