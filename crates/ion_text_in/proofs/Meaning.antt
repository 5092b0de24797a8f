-- The texts of scalars that are runs or words are tokens that mean them, where something ends them.
use Rattle.std.proofs.Common.{◌≡◌, ℕ, zero, suc, ◌+◌, ◌/◌, ◌%◌, ◌^◌, ◌<◌, ◌≤◌, inl, inr, ℤ, pos, negsuc, Bool, true, false, ◌&&◌, ◌||◌, ◌==◌, nat_lt, if◌then◌else◌, List, [], ◌∷◌, ◌++◌, length, drop, map, codes, decimal, Option, Some, None, Result, Ok, refl, sym, ap, subst, ◌∙◌, append-nil, arith, is_none, not}
use Rattle.std.proofs.lemmas.Bool.{cases_Bool, le-ltb, lt-ltb, and_from, and_parts, eqb-true, false≢true, not-true}
use Rattle.std.proofs.lemmas.Bool.Decides.{nat_tests}
use Rattle.std.proofs.lemmas.Int.{ints}
use Rattle.std.proofs.Math.Nat.{div-le_self}
use Rattle.ion_value.proofs.FixedDigits.{length-fixed_digits}
use Rattle.std.proofs.lemmas.List.{drop_at}
use Rattle.ion_meter.specs.declared.fault.Reason.{Reason}
use Rattle.ion_meter.specs.Sources.{Cursor, skip}
use Rattle.ion_value.specs.declared.decimal.Decimal.{Decimal}
use Rattle.ion_value.specs.declared.int.Int.{Int}
use Rattle.ion_value.specs.declared.timestamp.Timestamp.{Timestamp}
use Rattle.ion_value.specs.declared.timestamp.Precision.{Precision}
use Rattle.ion_value.specs.declared.timestamp.Precision.TheVariants.{Year, Month, Day, Minute, Second, Fraction}
use Rattle.ion_value.specs.Decimal.{IsExponent, integer_text, magnitude_text, most_places, decimal_text, decimal_of_text}
use Rattle.ion_value.specs.Digits.{is_digit, digit_value, first_is, all_are, fixed_digits}
use Rattle.ion_value.specs.Int.{int_text, int_of_text}
use Rattle.ion_value.specs.Number.{number}
use Rattle.ion_value.specs.Name.{is_identifier, is_version, keyword, is_id, raw_id, id_of, is_identifier_start, is_identifier_byte, is_one_of, null_text, bool_text}
use Rattle.ion_value.specs.declared.ion_type.IonType.{IonType}
use Rattle.ion_value.specs.declared.ion_type.IonType.TheVariants as type
use Rattle.std.specs.Str.{bytes_eq}
use Rattle.std.specs.Prelude.{is_none}
use Rattle.ion_value.specs.Scalar.{scalar_of_readings, scalar_of_run}
use Rattle.ion_value.specs.Timestamp.{day_text, minute_text, second_text, minutes_text, offset_text, text_to, timestamp_text, timestamp_of_text}
use Rattle.ion_value.specs.Value.{SymbolAt, Scalar, int, timestamp}
use Rattle.ion_value.specs.Value as value
use Rattle.ion_value.specs.Parts.{◌>>=◌}
use Rattle.ion_value.proofs.TextDecimals.{int_text-is_read, one-shape, spells, all-filter, all-value}
use Rattle.ion_value.proofs.DecimalRoundTrip.{decimal_text-is_read}
use Rattle.ion_value.proofs.TextRoundTrip.{text-read, fixed_digits-are}
use Rattle.ion_value.proofs.TextKinds.{timestamp-no_number}
use Rattle.ion_text_in.specs.Limit.{passes}
use Rattle.ion_text_in.specs.Places.{run_of}
use Rattle.ion_text_in.specs.Blanks.{is_white}
use Rattle.ion_text_in.specs.Token as tokens
use Rattle.ion_text_in.specs.Token.{First, a_run, a_word, first_at, begins_run, in_run, in_word, bytes_of, with_type, word_of, word_token, counted, run_token, Token, plain, token_of}
use Rattle.ion_text_in.specs.Beginnings.{EndsIdentifier, EndsNumber}
use Rattle.ion_text_in.specs.Meaning.{Limit, Allows, at, Means, EndsNull, NullTextIsRead, BoolTextIsRead, PlainSymbolIsRead, IdWordIsRead, IdIsRead, IntTextIsRead, DecimalTextIsRead, TimestampTextIsRead}
use Rattle.ion_text_in.proofs.RunTokens.{number-token}
use Rattle.ion_text_in.proofs.NumberEnds.{numbers-end}
use Rattle.ion_text_in.proofs.TokenBegins.{ends-from, no-first}

-- ---- limits and cursors

pub allowed : (limit : Limit) (count : ℕ) → Allows limit count → passes limit count ≡ false
allowed None count allows = refl
allowed (Some limit) count allows = le-ltb limit count allows

pub allows-fewer : (limit : Limit) (count fewer : ℕ) → fewer ≤ count → Allows limit count → Allows limit fewer
allows-fewer None count fewer less allows = tt
allows-fewer (Some limit) count fewer less allows = omega (arith, less, allows)

pub skip-prefix : (place : ℕ) (text rest : List ℕ) → skip (length text) (at place (text ++ rest)) ≡ at (place + length text) rest
skip-prefix place text rest = ap (λ (xs : List ℕ). at (place + length text) xs) (drop_at text rest (length text) refl)

-- ---- bytes of runs

-- digits, and what stands between those of a number or timestamp
abbrev pub is_run_byte : ℕ → Bool
is_run_byte b = is_digit b || is_one_of (codes "-+.:deTZ") b

run-byte : (b : ℕ) (bytes : List ℕ) → is_run_byte b ≡ true → in_run (b ∷ bytes) ≡ true
run-byte b bytes e =
    let no_mark : is_one_of (codes "{}[](),\"'") b ≡ false = grind (arith, nat_tests) in
    let no_white : is_white b ≡ false = grind (arith, nat_tests) in
    let no_slash : (b == 47) ≡ false = grind (arith, nat_tests) in
    simp (no_mark, no_white, no_slash) refl

pub run-more : (test : List ℕ → Bool) (b : ℕ) (bytes : List ℕ) → test (b ∷ bytes) ≡ true
    → run_of test (b ∷ bytes) ≡ (b ∷ (run_of test bytes).0, (run_of test bytes).1)
unfolding run_of
run-more test b bytes e = rw (run_of, e) refl

pub run-none : (test : List ℕ → Bool) (bytes : List ℕ) → test bytes ≡ false → run_of test bytes ≡ ([], bytes)
unfolding run_of
run-none test [] e = refl
run-none test (b ∷ bytes) e = rw (run_of, e) refl

-- bytes each of which goes on
run-all : (one : ℕ → Bool) (test : List ℕ → Bool) → ((b : ℕ) (bytes : List ℕ) → one b ≡ true → test (b ∷ bytes) ≡ true) → (text rest : List ℕ) → all_are one text ≡ true → test rest ≡ false
    → run_of test (text ++ rest) ≡ (text, rest)
run-all one test goes_on [] rest all ends = run-none test rest ends
run-all one test goes_on (b ∷ text) rest all ends =
    let parts = and_parts (one b) (all_are one text) all in
    run-more test b (text ++ rest) (goes_on b (text ++ rest) parts.0)
    ∙ ap (λ (z : List ℕ × List ℕ). (b ∷ z.0, z.1)) (run-all one test goes_on text rest parts.1 ends)

-- a text that begins as a run does, and all of whose bytes go on with it
pub record IsRun (text : List ℕ) : Type 0 where
  pub first : ℕ
  pub others : List ℕ
  pub text_is : text ≡ first ∷ others
  pub begins : begins_run first others ≡ true
  pub goes_on : all_are is_run_byte others ≡ true

begins-more : (b : ℕ) (xs rest : List ℕ) → begins_run b xs ≡ true → begins_run b (xs ++ rest) ≡ true
begins-more b [] rest e = grind (arith, nat_tests)
begins-more b (x ∷ xs) rest e = e

begins-no_word : (b : ℕ) (xs : List ℕ) → begins_run b xs ≡ true → is_identifier_start b ≡ false
begins-no_word b xs e = elim (cases_Bool (is_digit b)) [
  | inl d ↦ grind (arith, nat_tests)
  | inr d ↦ let minus : (b == 45) ≡ true = (and_parts (b == 45) (first_is is_digit xs) (rw d at e)).0 in rw (eqb-true b 45 minus) refl
]

first-run : (sexp : Bool) (b : ℕ) (xs : List ℕ) → begins_run b xs ≡ true → first_at sexp (b ∷ xs) ≡ a_run
unfolding first_at
first-run sexp b xs e = rw (begins-no_word b xs e, e) refl

run-bytes : (text rest : List ℕ) → IsRun text → in_run rest ≡ false → bytes_of in_run (text ++ rest) ≡ text
run-bytes text rest run ends =
    let e : bytes_of in_run ((run.first ∷ run.others) ++ rest) ≡ run.first ∷ run.others = rw (run-all is_run_byte in_run run-byte run.others rest run.goes_on ends) refl in
    subst (λ (xs : List ℕ). bytes_of in_run (xs ++ rest) ≡ xs) (sym run.text_is) e

run-first : (sexp : Bool) (text rest : List ℕ) → IsRun text → first_at sexp (text ++ rest) ≡ a_run
run-first sexp text rest run =
    subst (λ (xs : List ℕ). first_at sexp (xs ++ rest) ≡ a_run) (sym run.text_is)
    (first-run sexp run.first (run.others ++ rest) (begins-more run.first run.others rest run.begins))

abbrev token_after : Token → Cursor → Result (Token × Cursor) Reason
token_after t c = Ok (t, c)

counted-means : (limit : Limit) (place : ℕ) (text bytes rest : List ℕ) (means : List ℕ → Result Token Reason) (t : Token) → bytes ≡ text → passes limit (length text) ≡ false → means text ≡ Ok t
    → (counted limit bytes (at place (text ++ rest)) >>= (λ r. means r.0 >>= (λ t. token_after t r.1))) ≡ Ok (t, at (place + length text) rest)
counted-means limit place text bytes rest means t is fits e = rw (is, fits, e, skip-prefix place text rest) refl

pub token-means : (text : List ℕ) (t : Token) → IsRun text → run_token text ≡ Ok t → Means (length text) EndsNumber text t
unfolding token_of
token-means text t run means limit sexp place rest allows ends =
    ap (λ (f : First). token_of limit f (at place (text ++ rest))) (run-first sexp text rest run)
    ∙ counted-means limit place text (bytes_of in_run (text ++ rest)) rest run_token t (run-bytes text rest run ((numbers-end rest).1 ends)) (allowed limit (length text) allows)
    means

pub run-means : (text : List ℕ) (v : Scalar SymbolAt) → IsRun text → scalar_of_run text ≡ Ok v → Means (length text) EndsNumber text (plain v)
run-means text v run means = token-means text (plain v) run (number-token text v means)

-- ---- digits and what stands between them

pub all-append : (test : ℕ → Bool) (xs ys : List ℕ) → all_are test xs ≡ true → all_are test ys ≡ true → all_are test (xs ++ ys) ≡ true
all-append test [] ys e f = f
all-append test (x ∷ xs) ys e f =
    let parts = and_parts (test x) (all_are test xs) e in
    and_from (test x) (all_are test (xs ++ ys)) parts.0 (all-append test xs ys parts.1 f)

digit-run_byte : (b : ℕ) → is_digit b ≡ true → is_run_byte b ≡ true
digit-run_byte b e = rw e refl

pub digits-run_bytes : (ds : List ℕ) → all_are is_digit ds ≡ true → all_are is_run_byte ds ≡ true
digits-run_bytes [] e = refl
digits-run_bytes (d ∷ ds) e =
    let parts = and_parts (is_digit d) (all_are is_digit ds) e in
    and_from (is_run_byte d) (all_are is_run_byte ds) (digit-run_byte d parts.0) (digits-run_bytes ds parts.1)

-- digits, and bytes of a run after them
pub record Runs (text : List ℕ) : Type 0 where
  pub first : first_is is_digit text ≡ true
  pub all : all_are is_run_byte text ≡ true

pub digits-after : (ds text : List ℕ) → 0 < length ds → all_are is_digit ds ≡ true → all_are is_run_byte text ≡ true → Runs (ds ++ text)
digits-after [] text some digits after = absurd (omega arith)
digits-after (d ∷ ds) text some digits after = record {
  first = (and_parts (is_digit d) (all_are is_digit ds) digits).0;
  all = all-append is_run_byte (d ∷ ds) text (digits-run_bytes (d ∷ ds) digits) after;
}

run-of_digits : (text : List ℕ) → Runs text → IsRun text
run-of_digits [] runs = absurd (false≢true runs.first)
run-of_digits (b ∷ text) runs = record {
  first = b;
  others = text;
  text_is = refl;
  begins = rw runs.first refl;
  goes_on = (and_parts (is_run_byte b) (all_are is_run_byte text) runs.all).1;
}

pub sign-run : (negative : Bool) (text : List ℕ) → Runs text → IsRun ((if negative then 45 ∷ [] else []) ++ text)
sign-run true text runs = record { first = 45; others = text; text_is = refl; begins = runs.first; goes_on = runs.all }
sign-run false text runs = run-of_digits text runs

-- ---- ints

scalar-int : (run : List ℕ) (i : Int) → int_of_text run ≡ Ok i → scalar_of_run {S = SymbolAt} run ≡ Ok (int i)
unfolding scalar_of_run
scalar-int run i e = ap (λ o. scalar_of_readings {S = SymbolAt} o (decimal_of_text run) (timestamp_of_text run)) e

decimal-runs : (n : ℕ) (text : List ℕ) → n < 10 ^ 64 → all_are is_run_byte text ≡ true → Runs (decimal n ++ text)
decimal-runs n text small after = let w = spells n small in digits-after (decimal n) text w.some w.digits after

pub int-means : IntTextIsRead
int-means i valid =
    let runs = subst Runs (append-nil (decimal i.magnitude)) (decimal-runs i.magnitude [] (omega (arith, valid.fits)) refl) in
    run-means (int_text i) (int i) (sign-run i.negative (decimal i.magnitude) runs) (scalar-int (int_text i) i (int_text-is_read i valid))

-- ---- decimals

scalar-decimal : (run : List ℕ) (d : Decimal) → decimal_of_text run ≡ Ok d → scalar_of_run {S = SymbolAt} run ≡ Ok (value.decimal d)
unfolding scalar_of_run
scalar-decimal run d e = elim (one-shape run) [
  | inl no_int ↦ rw (no_int, e) refl
  | inr no_decimal ↦ absurd (cc (sym e ∙ no_decimal))
]

decimal-digits : (n : ℕ) → n < 10 ^ 64 → all_are is_run_byte (decimal n) ≡ true
decimal-digits n small = digits-run_bytes (decimal n) (spells n small).digits

pub exponent-bytes : (e : ℤ) → IsExponent e → all_are is_run_byte (integer_text e) ≡ true
exponent-bytes (pos n) within = decimal-digits n (omega (arith, ints))
exponent-bytes (negsuc n) within = decimal-digits (1 + n) (omega (arith, ints))

magnitude-runs : (n : ℕ) (e : ℤ) → n < 10 ^ 64 → IsExponent e → Runs (magnitude_text n e)
magnitude-runs n (pos e) small within = elim (cases_Bool (e == 0)) [
  | inl none ↦ rw none (decimal-runs n (46 ∷ []) small refl)
  | inr some ↦ rw some (decimal-runs n (100 ∷ integer_text (pos e)) small (exponent-bytes (pos e) within))
]
magnitude-runs n (negsuc e) small within = elim (cases_Bool (nat_lt e most_places)) [
  | inl few ↦
      let less : n / 10 ^ (1 + e) ≤ n = div-le_self n (10 ^ (1 + e)) in
      rw few (decimal-runs (n / 10 ^ (1 + e)) (46 ∷ fixed_digits (1 + e) n) (omega arith) (digits-run_bytes (fixed_digits (1 + e) n) (fixed_digits-are (1 + e) n)))
  | inr many ↦ rw many (decimal-runs n (100 ∷ integer_text (negsuc e)) small (exponent-bytes (negsuc e) within))
]

pub decimal-means : DecimalTextIsRead
decimal-means d valid =
    run-means (decimal_text d) (value.decimal d)
    (sign-run d.negative (magnitude_text d.coefficient d.exponent) (magnitude-runs d.coefficient d.exponent (omega (arith, valid.coefficient)) valid.exponent))
    (scalar-decimal (decimal_text d) d (decimal_text-is_read d valid))

-- ---- timestamps

scalar-timestamp : (run : List ℕ) (t : Timestamp) → timestamp_of_text run ≡ Ok t → scalar_of_run {S = SymbolAt} run ≡ Ok (timestamp t)
unfolding scalar_of_run
scalar-timestamp run t e =
    let others = timestamp-no_number run (λ bad. cc (sym e ∙ bad)) in
    rw (others.0, others.1, e) refl

fixed : (count n : ℕ) → all_are is_run_byte (fixed_digits count n) ≡ true
fixed count n = digits-run_bytes (fixed_digits count n) (fixed_digits-are count n)

-- a mark, and so many digits
marked : (b : ℕ) (count n : ℕ) (text : List ℕ) → is_run_byte b ≡ true → all_are is_run_byte text ≡ true → all_are is_run_byte (b ∷ (fixed_digits count n ++ text)) ≡ true
marked b count n text mark after =
    and_from (is_run_byte b) (all_are is_run_byte (fixed_digits count n ++ text)) mark (all-append is_run_byte (fixed_digits count n) text (fixed count n) after)

year-runs : (t : Timestamp) (text : List ℕ) → all_are is_run_byte text ≡ true → Runs (fixed_digits 4 t.year ++ text)
year-runs t text after = digits-after (fixed_digits 4 t.year) text (omega (arith, length-fixed_digits 4 t.year)) (fixed_digits-are 4 t.year) after

runs-more : (xs ys : List ℕ) → Runs xs → all_are is_run_byte ys ≡ true → Runs (xs ++ ys)
runs-more [] ys runs more = absurd (false≢true runs.first)
runs-more (x ∷ xs) ys runs more = record { first = runs.first; all = all-append is_run_byte (x ∷ xs) ys runs.all more }

last-fixed : (b count n : ℕ) → is_run_byte b ≡ true → all_are is_run_byte (b ∷ fixed_digits count n) ≡ true
last-fixed b count n mark = and_from (is_run_byte b) (all_are is_run_byte (fixed_digits count n)) mark (fixed count n)

day-runs : (t : Timestamp) → Runs (day_text t)
day-runs t = year-runs t (45 ∷ (fixed_digits 2 t.month ++ (45 ∷ fixed_digits 2 t.day))) (marked 45 2 t.month (45 ∷ fixed_digits 2 t.day) refl (last-fixed 45 2 t.day refl))

minute-runs : (t : Timestamp) → Runs (minute_text t)
minute-runs t =
    runs-more (day_text t) (84 ∷ (fixed_digits 2 t.hour ++ (58 ∷ fixed_digits 2 t.minute))) (day-runs t)
    (marked 84 2 t.hour (58 ∷ fixed_digits 2 t.minute) refl (last-fixed 58 2 t.minute refl))

second-runs : (t : Timestamp) → Runs (second_text t)
second-runs t = runs-more (minute_text t) (58 ∷ fixed_digits 2 t.second) (minute-runs t) (last-fixed 58 2 t.second refl)

minutes-bytes : (n : ℕ) → all_are is_run_byte (minutes_text n) ≡ true
minutes-bytes n = all-append is_run_byte (fixed_digits 2 (n / 60)) (58 ∷ fixed_digits 2 (n % 60)) (fixed 2 (n / 60)) (last-fixed 58 2 (n % 60) refl)

offset-bytes : (o : Option ℤ) → all_are is_run_byte (offset_text o) ≡ true
offset-bytes None = refl
offset-bytes (Some (pos zero)) = refl
offset-bytes (Some (pos (suc n))) = minutes-bytes (suc n)
offset-bytes (Some (negsuc n)) = minutes-bytes (suc n)

text-runs : (p : Precision) (t : Timestamp) → Runs (text_to p t)
text-runs Year t = year-runs t (84 ∷ []) refl
text-runs Month t = year-runs t (45 ∷ (fixed_digits 2 t.month ++ (84 ∷ []))) (marked 45 2 t.month (84 ∷ []) refl refl)
text-runs Day t = day-runs t
text-runs Minute t = runs-more (minute_text t) (offset_text t.offset) (minute-runs t) (offset-bytes t.offset)
text-runs Second t = runs-more (second_text t) (offset_text t.offset) (second-runs t) (offset-bytes t.offset)
text-runs (Fraction n) t =
    runs-more (second_text t) ((46 ∷ fixed_digits n t.fraction) ++ offset_text t.offset) (second-runs t)
    (all-append is_run_byte (46 ∷ fixed_digits n t.fraction) (offset_text t.offset) (last-fixed 46 n t.fraction refl) (offset-bytes t.offset))

timestamp-runs : (t : Timestamp) → Runs (timestamp_text t)
unfolding timestamp_text
timestamp-runs t = text-runs t.precision t

pub timestamp-means : TimestampTextIsRead
timestamp-means t valid =
    run-means (timestamp_text t) (timestamp t) (run-of_digits (timestamp_text t) (timestamp-runs t)) (scalar-timestamp (timestamp_text t) t (text-read t valid))

-- ---- words

pub word-ends : (rest : List ℕ) → EndsIdentifier rest → in_word rest ≡ false
word-ends rest ends = not-true (first_is is_identifier_byte rest) (ends-from ends)

pub word-means : (Ends : List ℕ → Type 0) (text : List ℕ) (t : Token) → ((rest : List ℕ) → Ends rest → word_of (text ++ rest) ≡ text)
    → ((sexp : Bool) (rest : List ℕ) → first_at sexp (text ++ rest) ≡ a_word) → word_token text ≡ Ok t → Means (length text) Ends text t
unfolding token_of
word-means Ends text t word first means limit sexp place rest allows ends =
    ap (λ (f : First). token_of limit f (at place (text ++ rest))) (first sexp rest)
    ∙ counted-means limit place text (word_of (text ++ rest)) rest word_token t (word rest ends) (allowed limit (length text) allows) means

word-all : (text rest : List ℕ) → all_are is_identifier_byte text ≡ true → in_word rest ≡ false → run_of in_word (text ++ rest) ≡ (text, rest)
word-all text rest all ends = run-all is_identifier_byte in_word (λ b bytes e. e) text rest all ends

-- a word that is not `null`, or has no point after it
pub whole-word : (b : ℕ) (text rest : List ℕ) → all_are is_identifier_byte text ≡ true → in_word rest ≡ false
    → (bytes_eq (codes "null") (b ∷ text) && first_is (λ b. b == 46) rest) ≡ false → word_of (b ∷ (text ++ rest)) ≡ b ∷ text
whole-word b text rest all ends alone =
    ap (λ (z : List ℕ × List ℕ). with_type (b ∷ z.0) z.1) (word-all text rest all ends)
    ∙ ap (λ (typed : Bool). if typed then (b ∷ text) ++ 46 ∷ (run_of in_word (drop 1 rest)).0 else b ∷ text) alone

bool-word : (truth : Bool) (rest : List ℕ) → EndsIdentifier rest → word_of (bool_text truth ++ rest) ≡ bool_text truth
bool-word true rest ends = whole-word 116 (codes "rue") rest refl (word-ends rest ends) refl
bool-word false rest ends = whole-word 102 (codes "alse") rest refl (word-ends rest ends) refl

bool-first : (truth : Bool) (sexp : Bool) (rest : List ℕ) → first_at sexp (bool_text truth ++ rest) ≡ a_word
unfolding first_at
bool-first true sexp rest = refl
bool-first false sexp rest = refl

bool-token : (truth : Bool) → word_token (bool_text truth) ≡ Ok (plain (value.bool truth))
unfolding word_token
bool-token true = refl
bool-token false = refl

pub bool-means : BoolTextIsRead
bool-means truth = word-means EndsIdentifier (bool_text truth) (plain (value.bool truth)) (bool-word truth) (bool-first truth) (bool-token truth)

-- `null`, a point and a type
typed-word : (type rest : List ℕ) → all_are is_identifier_byte type ≡ true → in_word rest ≡ false → word_of (codes "null." ++ (type ++ rest)) ≡ codes "null." ++ type
typed-word type rest all ends =
    ap (λ (z : List ℕ × List ℕ). with_type (110 ∷ z.0) z.1) (word-all (codes "ull") (46 ∷ (type ++ rest)) refl refl)
    ∙ ap (λ (z : List ℕ × List ℕ). codes "null." ++ z.0) (word-all type rest all ends)

null-word : (t : IonType) (rest : List ℕ) → EndsNull t rest → word_of (null_text t ++ rest) ≡ null_text t
null-word type.Null rest ends = whole-word 110 (codes "ull") rest refl (word-ends rest ends.0) (no-first 46 rest ends.1)
null-word t rest ends = typed-word (drop 5 (null_text t)) rest refl (word-ends rest ends)

null-first : (t : IonType) (sexp : Bool) (rest : List ℕ) → first_at sexp (null_text t ++ rest) ≡ a_word
unfolding first_at
null-first type.Null sexp rest = refl
null-first t sexp rest = refl

null-token : (t : IonType) → word_token (null_text t) ≡ Ok (plain (value.null t))
unfolding word_token
null-token type.Null = refl
null-token t = refl

pub null-means : NullTextIsRead
null-means t = word-means (EndsNull t) (null_text t) (plain (value.null t)) (null-word t) (null-first t) (null-token t)

-- ---- symbols without quotes

no-null : (word : List ℕ) → is_none (keyword word) ≡ true → bytes_eq (codes "null") word ≡ false
no-null word none = elim (cases_Bool (bytes_eq (codes "null") word)) [
  | inl is ↦ absurd (false≢true (rw is at none))
  | inr other ↦ other
]

none-is : {A : Type 0} (o : Option A) → is_none o ≡ true → o ≡ None
none-is None e = refl
none-is (Some x) e = absurd (false≢true e)

not-id : (b : Bool) → not b ≡ true → b ≡ false
not-id true e = absurd (false≢true e)
not-id false e = refl

abbrev named : value.Symbol → Result Token Reason
named s = Ok (tokens.name false s)

-- a word that is no keyword is a symbol
symbol-token : (word : List ℕ) (id : Bool) → keyword word ≡ None → is_id word ≡ id → word_token word ≡ named (if id then value.Id (id_of word) else value.Text word)
unfolding word_token
symbol-token word id none is = ap (λ k. tokens.by_keyword k word) none ∙ ap (λ (id : Bool). named (if id then value.Id (id_of word) else value.Text word)) is

pub plain-symbol-means : PlainSymbolIsRead
unfolding first_at
plain-symbol-means [] is = absurd (false≢true is)
plain-symbol-means (b ∷ word) is =
    let three = and_parts (is_identifier (b ∷ word) && is_none (keyword (b ∷ word)) && not (is_id (b ∷ word))) (not (is_version (b ∷ word))) is in
    let two = and_parts (is_identifier (b ∷ word) && is_none (keyword (b ∷ word))) (not (is_id (b ∷ word))) three.0 in
    let one = and_parts (is_identifier (b ∷ word)) (is_none (keyword (b ∷ word))) two.0 in
    let bytes = and_parts (is_identifier_start b) (all_are is_identifier_byte (b ∷ word)) one.0 in
    let others = and_parts (is_identifier_byte b) (all_are is_identifier_byte word) bytes.1 in
    let no_null : bytes_eq (codes "null") (b ∷ word) ≡ false = no-null (b ∷ word) one.1 in
    word-means EndsIdentifier (b ∷ word) (tokens.name false (value.Text (b ∷ word)))
    (λ rest ends. whole-word b word rest others.1 (word-ends rest ends) (ap (λ (n : Bool). n && first_is (λ b. b == 46) rest) no_null))
    (λ sexp rest. begins sexp (word ++ rest) bytes.0)
    (symbol-token (b ∷ word) false (none-is (keyword (b ∷ word)) one.1) (not-id (is_id (b ∷ word)) two.1))
  where
    begins : (sexp : Bool) (more : List ℕ) → is_identifier_start b ≡ true → first_at sexp (b ∷ more) ≡ a_word
    begins sexp more e = rw (first_at, e) refl

-- ---- ids

digits-identifier : (digits : List ℕ) → all_are is_digit digits ≡ true → all_are is_identifier_byte digits ≡ true
digits-identifier [] e = refl
digits-identifier (d ∷ digits) e =
    let parts = and_parts (is_digit d) (all_are is_digit digits) e in
    let first : is_identifier_byte d ≡ true = grind (arith, nat_tests) in
    and_from (is_identifier_byte d) (all_are is_identifier_byte digits) first (digits-identifier digits parts.1)

pub id_word-means : IdWordIsRead
unfolding first_at
id_word-means [] is = absurd (false≢true is)
id_word-means (b ∷ word) is =
    let two = and_parts (first_is (λ b. b == 36) (b ∷ word) && nat_lt 1 (length (b ∷ word))) (all_are is_digit word) is in
    let dollar : b ≡ 36 = eqb-true b 36 (and_parts (b == 36) (nat_lt 1 (length (b ∷ word))) two.0).0 in
    subst (λ (b : ℕ). Means (length (b ∷ word)) EndsIdentifier (b ∷ word) (tokens.name false (value.Id (id_of (b ∷ word))))) (sym dollar)
    (word-means EndsIdentifier (36 ∷ word) (tokens.name false (value.Id (id_of (36 ∷ word))))
    (λ rest ends. whole-word 36 word rest (digits-identifier word two.1) (word-ends rest ends) refl) (λ sexp rest. refl)
    (symbol-token (36 ∷ word) true refl (subst (λ (b : ℕ). is_id (b ∷ word) ≡ true) dollar is)))

id-digits : (ds : List ℕ) → 0 < length ds → all_are is_digit ds ≡ true → is_id (36 ∷ ds) ≡ true
id-digits ds some digits = and_from (nat_lt 1 (length (36 ∷ ds))) (all_are is_digit ds) (lt-ltb 1 (length (36 ∷ ds)) (omega (arith, some))) digits

pub id-means : IdIsRead
id-means id most =
    let w = spells id (omega (arith, most)) in
    let value_is : number 10 (map digit_value (decimal id)) ≡ id
    = ap (λ (ds : List ℕ). number 10 (map digit_value ds)) (sym (all-filter (decimal id) w.digits)) ∙ sym (all-value (decimal id) w.digits) ∙ w.value in
    let id_is : id_of (36 ∷ decimal id) ≡ id = ap raw_id value_is ∙ omega (arith, most) in
    subst (λ (n : ℕ). Means (length (36 ∷ decimal id)) EndsIdentifier (36 ∷ decimal id) (tokens.name false (value.Id n))) id_is
    (id_word-means (36 ∷ decimal id) (id-digits (decimal id) w.some w.digits))
