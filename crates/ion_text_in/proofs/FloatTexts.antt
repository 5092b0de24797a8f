-- The text of a float is a token that means it.
use Rattle.std.proofs.Common.{◌≡◌, ℕ, zero, suc, ◌^◌, ◌<◌, ◌≤◌, ℤ, Bool, true, false, if◌then◌else◌, List, [], ◌∷◌, ◌++◌, length, codes, T, Some, None, Result, Ok, Err, refl, sym, subst, arith}
use Rattle.std.specs.Fmt.{decimal}
use Rattle.std.proofs.lemmas.Bool.{and_parts, and_from}
use Rattle.std.proofs.lemmas.Int.{ints}
use lib.Ieee.{nan, inf, fin, binary64, fits, to_bits}
use lib.Ieee.Bits.{of_bits-to_bits, to_bits-lt}
use Rattle.ion_meter.specs.declared.fault.Reason.{Reason}
use Rattle.ion_meter.specs.declared.fault.Reason.TheVariants.{BadToken}
use Rattle.ion_value.specs.Decimal.{IsExponent, Parts, integer_text, parts_of}
use Rattle.ion_value.specs.Digits.{is_digit, first_is, all_are, has_minus, without_minus}
use Rattle.ion_value.specs.FloatText.{pointed, exponent_of, digits_text, magnitude_text, float_text, is_float, float_of_parts, or_else, float_of_text}
use Rattle.ion_value.specs.Name.{is_identifier_byte}
use Rattle.ion_value.specs.Shortest.{shortest}
use Rattle.ion_value.proofs.TextDecimals.{spells}
use Rattle.ion_float.proofs.FewDigits.{few-digits}
use Rattle.ion_float.proofs.RoundTrip.{text-read}
use Rattle.ion_float.proofs.TextOfBits.{above-zero, digits-short, shortest-row}
use Rattle.ion_text_in.specs.Beginnings.{EndsIdentifier, EndsNumber}
use Rattle.ion_text_in.specs.Meaning.{Means, FloatTextIsRead}
use Rattle.ion_text_in.specs.Token.{an_infinity, a_word, float, first_at, token_of, word_token}
use Rattle.ion_text_in.proofs.Meaning.{IsRun, Runs, all-append, allowed, digits-run_bytes, exponent-bytes, is_run_byte, sign-run, token-means, whole-word, word-ends, word-means}
use Rattle.ion_text_in.proofs.RunTokens.{float-means}

-- ---- words

nan-first : (sexp : Bool) (rest : List ℕ) → first_at sexp (codes "nan" ++ rest) ≡ a_word
unfolding first_at
nan-first sexp rest = refl

nan-token : word_token (codes "nan") ≡ Ok (float (Some nan))
unfolding word_token
nan-token = refl

nan-means : Means 3 EndsIdentifier (codes "nan") (float (Some nan))
nan-means =
    word-means EndsIdentifier (codes "nan") (float (Some nan)) (λ rest ends. whole-word 110 (codes "an") rest refl (word-ends rest ends) refl) nan-first nan-token

infinity-first : (negative sexp : Bool) (rest : List ℕ) → first_is is_identifier_byte rest ≡ false → first_at sexp (float_text (inf negative) ++ rest) ≡ an_infinity
unfolding first_at
infinity-first true sexp rest ends = rw ends refl
infinity-first false sexp rest ends = rw ends refl

infinity-means : (negative : Bool) → Means (length (float_text (inf negative))) EndsIdentifier (float_text (inf negative)) (float (Some (inf negative)))
unfolding token_of
infinity-means true limit sexp place rest allows ends = rw (infinity-first true sexp rest (word-ends rest ends), allowed limit 4 allows) refl
infinity-means false limit sexp place rest allows ends = rw (infinity-first false sexp rest (word-ends rest ends), allowed limit 4 allows) refl

-- ---- numbers

if-ok : {A : Type 0} (b : Bool) (r : Result A Reason) (x : A) → (if b then r else Err BadToken) ≡ Ok x → b ≡ true
if-ok true r x h = refl
if-ok false r x h = absurd (cc h)

shape-of : (a b c s sign : Bool) (p : Parts) (m : ℕ) (e : ℤ)
    → or_else (if a then Some nan else (if b then Some (inf false) else (if c then Some (inf true) else None))) (float_of_parts s p) ≡ Ok (fin sign m e) → is_float p ≡ true
shape-of true b c s sign p m e h = absurd (cc h)
shape-of false true c s sign p m e h = absurd (cc h)
shape-of false false true s sign p m e h = absurd (cc h)
shape-of false false false s sign p m e h = if-ok (is_float p) _ (fin sign m e) h

-- what is read as a finite float has the shape of one
finite-shape : (run : List ℕ) (sign : Bool) (m : ℕ) (e : ℤ) → float_of_text run ≡ Ok (fin sign m e) → is_float (parts_of (without_minus run)) ≡ true
unfolding float_of_text
finite-shape run sign m e h = shape-of _ _ _ (has_minus run) sign (parts_of (without_minus run)) m e h

pointed-runs : (ds text : List ℕ) → 0 < length ds → all_are is_digit ds ≡ true → all_are is_run_byte text ≡ true → Runs (pointed ds ++ text)
pointed-runs [] text some digits after = absurd (omega arith)
pointed-runs (d ∷ []) text some digits after = record {
  first = (and_parts (is_digit d) true digits).0;
  all = all-append is_run_byte (d ∷ []) text (digits-run_bytes (d ∷ []) digits) after;
}
pointed-runs (d ∷ f ∷ ds) text some digits after =
    let parts = and_parts (is_digit d) (all_are is_digit (f ∷ ds)) digits in
    let bytes = and_parts (is_run_byte d) (all_are is_run_byte (f ∷ ds)) (digits-run_bytes (d ∷ f ∷ ds) digits) in
    record {
      first = parts.0;
      all = and_from (is_run_byte d) (all_are is_run_byte (46 ∷ ((f ∷ ds) ++ text))) bytes.0 (all-append is_run_byte (f ∷ ds) text bytes.1 after);
    }

exponent-within : (count row : ℕ) → count ≤ 17 → row ≤ 651 → IsExponent (exponent_of count row)
exponent-within count row few within = (omega (arith, ints), omega (arith, ints))

digits-runs : (n row : ℕ) → n < 10 ^ 17 → row ≤ 651 → Runs (digits_text (n, row))
digits-runs n row small within =
    let w = spells n (omega arith) in
    pointed-runs (decimal n) (101 ∷ integer_text (exponent_of (length (decimal n)) row)) w.some w.digits
    (exponent-bytes (exponent_of (length (decimal n)) row) (exponent-within (length (decimal n)) row (digits-short n small) within))

unsigned-fits : (s : Bool) (m : ℕ) (e : ℤ) → T (fits binary64 (fin s (suc m) e)) → T (fits binary64 (fin false (suc m) e))
unfolding fits
unsigned-fits s m e h = h

magnitude-runs : (s : Bool) (m : ℕ) (e : ℤ) → T (fits binary64 (fin s m e)) → Runs (magnitude_text m e)
magnitude-runs s zero e h = record { first = refl; all = refl }
magnitude-runs s (suc m) e h =
    let x = fin false (suc m) e in
    let fit = unsigned-fits s m e h in
    let b = to_bits binary64 x in
    let above = above-zero b m e (to_bits-lt binary64 x fit) (of_bits-to_bits binary64 x fit) in
    digits-runs (shortest b).0 (shortest b).1 (few-digits b above) (shortest-row b)

finite-means : (s : Bool) (m : ℕ) (e : ℤ) (text : List ℕ) → text ≡ (if s then 45 ∷ [] else []) ++ magnitude_text m e → T (fits binary64 (fin s m e)) → float_of_text text ≡ Ok (fin s m e)
    → Means (length text) EndsNumber text (float (Some (fin s m e)))
finite-means s m e text is h read =
    token-means text (float (Some (fin s m e))) (subst IsRun (sym is) (sign-run s (magnitude_text m e) (magnitude-runs s m e h)))
    (float-means (fin s m e) text (finite-shape text s m e read) read)

pub float-text-means : FloatTextIsRead
float-text-means nan h = nan-means
float-text-means (inf true) h = infinity-means true
float-text-means (inf false) h = infinity-means false
float-text-means (fin true m e) h = finite-means true m e (float_text (fin true m e)) refl h (text-read (fin true m e) h)
float-text-means (fin false m e) h = finite-means false m e (float_text (fin false m e)) refl h (text-read (fin false m e) h)
