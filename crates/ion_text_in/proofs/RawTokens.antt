-- What each token means is raw: numbers in range, texts in UTF-8, lobs of bytes.
use Rattle.std.proofs.Common.{◌≡◌, ◌⊎◌, inl, inr, ℕ, zero, suc, ◌^◌, ◌<◌, ℤ, pos, ◌-ℤ◌, filter, Bool, true, false, not, ◌&&◌, ◌||◌, ◌==◌, nat_lt, if◌then◌else◌, List, [], ◌∷◌, ◌++◌, length, drop, slice_index, codes, Option, None, Some, Result, Ok, Err, IsUtf8, refl, sym, arith}
use Rattle.std.specs.List.{AllByRecursion}
use Rattle.std.specs.Result.{IfOk}
use Rattle.std.specs.Str.{is_utf8, bytes_eq}
use lib.Ieee.{Float, nan, inf, fits}
use Rattle.std.proofs.lemmas.Bool.{false≢true, and_parts, ltb-true, not-false}
use Rattle.std.proofs.lemmas.Bool.Decides.{nat_tests}
use Rattle.std.proofs.lemmas.Result.{IfOk-at_ok}
use Rattle.std.proofs.lemmas.Str.{IsUtf8-from_is_utf8, IsUtf8-append, IsUtf8-from_ascii}
use Rattle.ion_meter.specs.Sources.{Cursor, skip}
use Rattle.ion_meter.specs.declared.fault.Reason.{Reason}
use Rattle.ion_meter.specs.declared.fault.Reason.TheVariants.{BadToken, BadText, Range, ScalarLimit}
use Rattle.ion_value.specs.declared.int.Int.{Int}
use Rattle.ion_value.specs.declared.decimal.Decimal.{Decimal}
use Rattle.ion_value.specs.declared.timestamp.Timestamp.{Timestamp}
use Rattle.ion_value.specs.Decimal.{IsDecimal, decimal_of_text, decimal_in_range, is_decimal, is_float, parts_of, fraction_digits, power_value}
use Rattle.ion_value.proofs.DecimalOctets.{decimal_in_range-Made, Made-IsDecimal}
use Rattle.ion_value.specs.Digits.{first_is, is_digit, is_hex_digit, is_binary_digit, digits_value, is_whole, has_minus, without_minus}
use Rattle.ion_value.specs.Float.{IsFloat}
use Rattle.ion_value.specs.FloatText.{float_of_text}
use Rattle.ion_value.specs.Int.{IsInt, int_of_text, int_in_range, is_based}
use Rattle.ion_value.specs.Name.{Keyword, a_null, a_bool, a_nan, keyword, is_id, id_of, is_operator_byte}
use Rattle.ion_value.specs.Scalar.{scalar_of_run, scalar_of_readings}
use Rattle.ion_value.specs.Timestamp.{IsTimestamp, timestamp_of_text}
use Rattle.ion_value.specs.Value as value
use Rattle.ion_value.specs.Value.{SymbolAt, Scalar}
use Rattle.ion_value.proofs.TextReadings.{text-valid}
use Rattle.ion_float.proofs.TextReading.{text-is-read}
use Rattle.ion_text_in.specs.Beginnings.{BeginsIdentifier, TokenBegins}
use Rattle.ion_text_in.specs.Blanks.{begins_comment}
use Rattle.ion_text_in.specs.Limit.{passes}
use Rattle.ion_text_in.specs.Lob.{lob_at}
use Rattle.ion_text_in.specs.Meaning.{IsRawScalar, IsRawToken, TokensAreRaw}
use Rattle.ion_text_in.specs.Places.{run_of}
use Rattle.ion_text_in.specs.Quoted.{Quote, symbol_quote, short_quote, long_quote, pieces_for, segment_at, text_at}
use Rattle.ion_text_in.specs.Token.{First, a_run, a_word, a_quoted, a_short, a_long, a_lob, an_operator, an_infinity, first_at, Token, float, name, found_float, counted, bytes_of, in_run, in_word, in_operator, with_type, word_of, word_token, run_token, by_keyword, token_of}
use Rattle.ion_text_in.proofs.LobBytes.{all-append, lob-raw}
use Rattle.ion_text_in.proofs.NumberEnds.{one_of-from}
use Rattle.ion_text_in.proofs.RunTokens.{if-scalar}
use Rattle.ion_text_in.proofs.Shrinking.{Any, SizedAt, Sized, any-pieces, text-sized}
use Rattle.ion_text_in.proofs.TokenBegins.{what-begins}
use Rattle.ion_text_in.proofs.Tokens.{tok-stands}
use Rattle.ion_value.proofs.WentWell.{if-any, if-then, if-passed, if-either, if-more}

-- ---- runs

int_in_range-valid : (negative : Bool) (n : ℕ) → IfOk (int_in_range negative n) IsInt
int_in_range-valid negative n = by (nat_lt n (2 ^ 128)) refl
  where
    by : (b : Bool) → nat_lt n (2 ^ 128) ≡ b
        → IfOk (if b then Ok (record { negative = negative && nat_lt 0 n; magnitude = n }) else Err Range) IsInt
    by true e = record { positive_zero = λ h. ltb-true 0 n (and_parts negative (nat_lt 0 n) h).1; fits = ltb-true n (2 ^ 128) e }
    by false e = tt

int-valid : (run : List ℕ) → IfOk (int_of_text run) IsInt
unfolding int_of_text
int-valid run =
    let negative : Bool = has_minus run in
    let bytes : List ℕ = without_minus run in
    if-either IsInt (is_whole bytes) _ _ (int_in_range-valid negative (digits_value 10 bytes))
    (if-either IsInt (is_based 120 88 is_hex_digit bytes) _ _ (int_in_range-valid negative (digits_value 16 (drop 2 bytes)))
    (if-either IsInt (is_based 98 66 is_binary_digit bytes) _ _ (int_in_range-valid negative (digits_value 2 (drop 2 bytes))) tt))

decimal_in_range-valid : (negative : Bool) (n : ℕ) (e : ℤ) → IfOk (decimal_in_range negative n e) IsDecimal
decimal_in_range-valid negative n e = by (decimal_in_range negative n e) refl
  where
    by : (r : Result Decimal Reason) → decimal_in_range negative n e ≡ r → IfOk r IsDecimal
    by (Ok d) f = Made-IsDecimal negative n e d (decimal_in_range-Made negative n e d f)
    by (Err reason) f = tt

decimal-valid : (run : List ℕ) → IfOk (decimal_of_text run) IsDecimal
unfolding decimal_of_text
decimal-valid run =
    let p = parts_of (without_minus run) in
    let digits : List ℕ = fraction_digits p.fraction in
    if-either IsDecimal (is_decimal p) _ _
    (decimal_in_range-valid (has_minus run) (digits_value 10 (filter is_digit p.whole ++ digits)) (power_value p.power -ℤ pos (length digits)))
    (if-either IsDecimal (is_float p) _ _ tt tt)

readings-raw : (i : Result Int Reason) (d : Result Decimal Reason) (t : Result Timestamp Reason) → IfOk i IsInt → IfOk d IsDecimal
    → IfOk t IsTimestamp
    → IfOk (scalar_of_readings {S = SymbolAt} i d t) IsRawScalar
readings-raw (Ok i) d t h k l = record { in_range = h; text = tt; bytes = tt; no_symbol = refl; no_float = λ rules. tt }
readings-raw (Err BadToken) (Ok d) t h k l = record { in_range = k; text = tt; bytes = tt; no_symbol = refl; no_float = λ rules. tt }
readings-raw (Err BadToken) (Err BadToken) (Ok t) h k l = record { in_range = l; text = tt; bytes = tt; no_symbol = refl; no_float = λ rules. tt }
readings-raw i d t h k l = tt

found-raw : (r : Result Float Reason) → IfOk r IsFloat → IsRawToken (float (found_float r))
found-raw (Ok x) h = h
found-raw (Err why) h = tt

run-raw : (run : List ℕ) → IfOk (run_token run) IsRawToken
unfolding scalar_of_run
run-raw run =
    if-scalar IsRawToken run (scalar_of_run run)
    (readings-raw (int_of_text run) (decimal_of_text run) (timestamp_of_text run) (int-valid run) (decimal-valid run)
    (text-valid run (timestamp_of_text run) refl).0) (found-raw (float_of_text run) (text-is-read run).0)

-- ---- bytes of words and operators

abbrev Ascii : List ℕ → Type 0
Ascii bytes = AllByRecursion (λ b. b < 128) bytes

ascii-utf8 : (bytes : List ℕ) → Ascii bytes → IsUtf8 bytes
ascii-utf8 bytes h = IsUtf8-from_ascii bytes (λ i. at bytes i h)
  where
    at : (bytes : List ℕ) (i : ℕ) → Ascii bytes → slice_index bytes i < 128
    at [] i h = omega arith
    at (b ∷ bytes) zero h = h.0
    at (b ∷ bytes) (suc i) h = at bytes i h.1

run-ascii : (test : List ℕ → Bool) → ((b : ℕ) (bytes : List ℕ) → test (b ∷ bytes) ≡ true → b < 128) → (bytes : List ℕ)
    → Ascii (run_of test bytes).0
unfolding run_of
run-ascii test small [] = tt
run-ascii test small (b ∷ bytes) = by (test (b ∷ bytes)) refl (run-ascii test small bytes)
  where
    by : (t : Bool) → test (b ∷ bytes) ≡ t → Ascii (run_of test bytes).0
        → Ascii (elim t as (λ _. List ℕ × List ℕ) [ true ↦ (b ∷ (run_of test bytes).0, (run_of test bytes).1) | false ↦ ([], b ∷ bytes) ]).0
    by true e h = (small b bytes e, h)
    by false e h = tt

word-small : (b : ℕ) (bytes : List ℕ) → in_word (b ∷ bytes) ≡ true → b < 128
word-small b bytes e = grind (arith, nat_tests)

character-small : (b : ℕ) → is_operator_byte b ≡ true → b < 128
character-small b e = grind (arith, nat_tests)

operator-small : (b : ℕ) (bytes : List ℕ) → in_operator (b ∷ bytes) ≡ true → b < 128
operator-small b bytes e = character-small b (and_parts (is_operator_byte b) (not (begins_comment (b ∷ bytes))) e).0

identifier-small : {b : ℕ} → BeginsIdentifier b → b < 128
identifier-small (BeginsIdentifier.capital low high) = omega (arith, high)
identifier-small (BeginsIdentifier.small low high) = omega (arith, high)
identifier-small BeginsIdentifier.underscore = omega arith
identifier-small BeginsIdentifier.dollar = omega arith

-- the first byte, where there is one, is ASCII
abbrev FirstSmall : List ℕ → Type 0
FirstSmall [] = Unit {0}
FirstSmall (b ∷ bytes) = b < 128

word-first : (sexp : Bool) (rest : List ℕ) → TokenBegins sexp rest a_word → FirstSmall rest
word-first sexp _ (TokenBegins.word is) = identifier-small is

operator-first : (sexp : Bool) (rest : List ℕ) → TokenBegins sexp rest an_operator → FirstSmall rest
operator-first sexp _ (TokenBegins.operator {b = b} here is number infinity) = character-small b (one_of-from is)

typed-ascii : (word after : List ℕ) → Ascii word → Ascii (with_type word after)
typed-ascii word after h = by (bytes_eq (codes "null") word && first_is (λ b. b == 46) after)
  where
    by : (b : Bool) → Ascii (if b then word ++ 46 ∷ (run_of in_word (drop 1 after)).0 else word)
    by true = all-append (λ b. b < 128) word (46 ∷ (run_of in_word (drop 1 after)).0) h (omega arith, run-ascii in_word word-small (drop 1 after))
    by false = h

word-ascii : (rest : List ℕ) → FirstSmall rest → Ascii (word_of rest)
word-ascii [] small = tt
word-ascii (b ∷ bytes) small = typed-ascii (b ∷ (run_of in_word bytes).0) (run_of in_word bytes).1 (small, run-ascii in_word word-small bytes)

operator-ascii : (rest : List ℕ) → FirstSmall rest → Ascii (bytes_of in_operator rest)
operator-ascii [] small = tt
operator-ascii (b ∷ bytes) small = (small, run-ascii in_operator operator-small bytes)

nan-raw : IsRawToken (float (Some nan))
unfolding fits
nan-raw = tt

infinity-raw : (negative : Bool) → IsRawToken (float (Some (inf negative)))
unfolding fits
infinity-raw negative = tt

keyword-raw : (k : Option Keyword) (word : List ℕ) → Ascii word → IfOk (by_keyword k word) IsRawToken
keyword-raw (Some (a_null (Some n))) word h = record { in_range = tt; text = tt; bytes = tt; no_symbol = refl; no_float = λ rules. tt }
keyword-raw (Some (a_null None)) word h = tt
keyword-raw (Some (a_bool truth)) word h = record { in_range = tt; text = tt; bytes = tt; no_symbol = refl; no_float = λ rules. tt }
keyword-raw (Some a_nan) word h = nan-raw
keyword-raw None word h = by (is_id word)
  where
    by : (b : Bool) → IsRawToken (name false (if b then value.Id (id_of word) else value.Text word))
    by true = tt
    by false = ascii-utf8 word h

word-raw : (word : List ℕ) → Ascii word → IfOk (word_token word) IsRawToken
unfolding word_token
word-raw word h = keyword-raw (keyword word) word h

-- ---- texts

or-second : (x y : Bool) → x ≡ false → not (x || y) ≡ false → y ≡ true
or-second false y e f = not-false y f
or-second true y e f = absurd (false≢true (sym e))

segment-utf8 : (q : Quote) (limit : Option ℕ) → q.in_clob ≡ false → (count : ℕ) (c : Cursor) → Sized IsUtf8 c (segment_at q limit count c)
unfolding segment_at
segment-utf8 q limit no_clob count c =
    if-then (SizedAt Any c) _ (pieces_for (suc (length c.rest)) q limit count c) _ (any-pieces q limit count c)
    (λ s h. if-passed (SizedAt IsUtf8 c) (not (q.in_clob || is_utf8 s.0)) BadText (Ok s)
    (λ e. (h.0, IsUtf8-from_is_utf8 s.0 (or-second q.in_clob (is_utf8 s.0) no_clob e))))

text-utf8 : (q : Quote) (limit : Option ℕ) (c : Cursor) → q.in_clob ≡ false → IfOk (text_at q limit c) (λ t. IsUtf8 t.0)
text-utf8 q limit c no_clob =
    if-more (SizedAt IsUtf8 c) _ (text_at q limit c) (text-sized IsUtf8 (record { none = ascii-utf8 [] tt; join = IsUtf8-append }) limit q (segment-utf8 q limit no_clob) c) (λ t h. h.1)

-- ---- tokens

abbrev IfRaw : Result (Token × Cursor) Reason → Type 0
IfRaw o = IfOk o (λ t. IsRawToken t.0)

-- what holds of the bytes that are counted
counted-is : (P : List ℕ → Type 0) (limit : Option ℕ) (bytes : List ℕ) (c : Cursor) → P bytes → IfOk (counted limit bytes c) (λ r. P r.0)
counted-is P limit bytes c h = if-passed _ (passes limit (length bytes)) ScalarLimit _ (λ _. h)

token-raw : (limit : Option ℕ) (f : First) (c : Cursor) → (f ≡ a_word ⊎ f ≡ an_operator → FirstSmall c.rest) → IfRaw (token_of limit f c)
unfolding token_of
token-raw limit a_run c small = if-any _ (counted limit (bytes_of in_run c.rest) c) _ (λ r. if-then IsRawToken _ (run_token r.0) _ (run-raw r.0) (λ t h. h))
token-raw limit a_word c small =
    if-then (λ r. Ascii r.0) _ (counted limit (word_of c.rest) c) _
    (counted-is Ascii limit (word_of c.rest) c (word-ascii c.rest (small (inl refl))))
    (λ w h. if-then IsRawToken _ (word_token w.0) _ (word-raw w.0 h) (λ t h. h))
token-raw limit a_quoted c small = if-then (λ t. IsUtf8 t.0) _ (text_at symbol_quote limit (skip 1 c)) _
    (text-utf8 symbol_quote limit (skip 1 c) refl) (λ t h. h)
token-raw limit a_short c small = if-then (λ t. IsUtf8 t.0) _ (text_at (short_quote false) limit (skip 1 c)) _
    (text-utf8 (short_quote false) limit (skip 1 c) refl) (λ t h. h)
token-raw limit a_long c small = if-then (λ t. IsUtf8 t.0) _ (text_at (long_quote false) limit (skip 3 c)) _
    (text-utf8 (long_quote false) limit (skip 3 c) refl) (λ t h. h)
token-raw limit a_lob c small = if-then (λ l. IsRawScalar l.0) _ (lob_at limit (skip 2 c)) _ (lob-raw limit (skip 2 c)) (λ l h. h)
token-raw limit an_operator c small =
    if-then (λ r. Ascii r.0) _ (counted limit (bytes_of in_operator c.rest) c) _
    (counted-is Ascii limit (bytes_of in_operator c.rest) c (operator-ascii c.rest (small (inr refl))))
    (λ r h. ascii-utf8 r.0 h)
token-raw limit an_infinity c small = if-passed _ (passes limit 4) ScalarLimit _ (λ _. infinity-raw (has_minus c.rest))
token-raw limit mark c small = tt

first-small : (sexp : Bool) (rest : List ℕ) → first_at sexp rest ≡ a_word ⊎ first_at sexp rest ≡ an_operator → FirstSmall rest
first-small sexp rest (inl e) = word-first sexp rest ((what-begins sexp rest a_word (λ no. absurd (cc no))).0 e)
first-small sexp rest (inr e) = operator-first sexp rest ((what-begins sexp rest an_operator (λ no. absurd (cc no))).0 e)

pub tokens-are_raw : TokensAreRaw
tokens-are_raw sexp c d t p tok =
    let s = tok-stands sexp c d t p tok in
    IfOk-at_ok (λ (x : Token × Cursor). IsRawToken x.0) s.token
    (token-raw None (first_at sexp s.prefix.rest) s.prefix (first-small sexp s.prefix.rest))
