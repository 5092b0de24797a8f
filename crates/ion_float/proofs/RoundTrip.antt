-- Reading the text of a float gives the float.
use Rattle.std.proofs.Common.{◌≡◌, ℕ, zero, suc, ◌+◌, ◌-◌, ◌*◌, ◌^◌, ◌<◌, ◌≤◌, ℤ, pos, ◌-ℤ◌, Bool, true, false, not, ◌||◌, ◌==◌, cond, T, Option, None, Result, Ok, List, [], ◌∷◌, ◌++◌, length, filter, refl, sym, ap, ◌∙◌, subst, arith, append-nil}
use Rattle.std.specs.Fmt.{decimal}
use Rattle.std.specs.Float.{float_with_sign}
use Rattle.std.proofs.lemmas.Bool.{and_parts}
use Rattle.std.proofs.lemmas.Bool.Decides.{nat_tests}
use Rattle.std.proofs.lemmas.Int.{ints}
use Rattle.fast_float.specs.Rounding.{nearest_to_decimal}
use lib.Dec.{ltb}
use lib.Ieee.{Float, nan, inf, fin, Format, binary64, prec, emax, low, units, round, fits, to_bits}
use lib.Ieee.Fits.{round_is}
use mathlib.Core.Bool.{true≢false}
use lib.Ieee.Bits.{of_bits-to_bits, to_bits-lt}
use Rattle.ion_meter.specs.declared.fault.Reason.{Reason}
use Rattle.ion_value.specs.Digits.{is_digit, digits_value, first_is, all_are, is_whole, has_minus, without_minus, cut_at}
use Rattle.ion_value.specs.Decimal.{IsExponent, integer_text, is_exponent_mark, parts_of, is_fraction, fraction_digits, is_power, power_value}
use Rattle.ion_value.proofs.TextDecimals.{cut-prefix, apart-mark, make_parts, parts-prefix, parts-point, all-prefix, all-filter, all-some, Spells, spells, signed_text, sign-read, Power, power-written}
use Rattle.ion_value.specs.Shortest.{shortest}
use Rattle.ion_value.specs.FloatText.{pointed, exponent_of, digits_text, magnitude_text, float_text, is_float_mark, finite, float_of_parts, float_word, or_else, float_of_text}
use Rattle.ion_float.proofs.Parsing.{nearest-tens}
use Rattle.ion_float.proofs.FewDigits.{few-digits}
use Rattle.ion_float.proofs.Narrow.{same_value, zero_fits}
use Rattle.ion_float.proofs.Reading.{shortest_reads, is-positive}
use Rattle.ion_float.proofs.TextOfBits.{digits-short, above-zero, shortest-row, odd_sign}

-- ---- the parts of the text of a number

mark-parts : (t : List ℕ) → parts_of (101 ∷ t) ≡ make_parts [] [] (101 ∷ t)
unfolding parts_of cut_at
mark-parts t = refl

mark-cut : (t : List ℕ) → cut_at is_exponent_mark (101 ∷ t) ≡ ([], 101 ∷ t)
unfolding cut_at
mark-cut t = refl

-- digits as they are cut off
digits-cut : (ds t : List ℕ) → all_are is_digit ds ≡ true → cut_at is_exponent_mark (ds ++ (101 ∷ t)) ≡ (ds, 101 ∷ t)
digits-cut ds t h =
    ap (λ (xs : List ℕ). cut_at is_exponent_mark (xs ++ (101 ∷ t))) (sym (all-prefix ds h))
    ∙ cut-prefix is_exponent_mark ds (101 ∷ t) apart-mark
    ∙ rw (all-prefix ds h, mark-cut t, append-nil) refl

digits-parts : (ds rest : List ℕ) → all_are is_digit ds ≡ true
    → parts_of (ds ++ rest) ≡ make_parts (ds ++ (parts_of rest).whole) (parts_of rest).fraction (parts_of rest).power
digits-parts ds rest h = rw (all-prefix ds h) at (parts-prefix ds rest)

whole-parts : (d : ℕ) (t : List ℕ) → is_digit d ≡ true → parts_of (d ∷ 101 ∷ t) ≡ make_parts (d ∷ []) [] (101 ∷ t)
whole-parts d t h =
    let one : all_are is_digit (d ∷ []) ≡ true = rw h refl in
    digits-parts (d ∷ []) (101 ∷ t) one ∙ rw (mark-parts t) refl

pointed-parts : (d : ℕ) (ds t : List ℕ) → is_digit d ≡ true → all_are is_digit ds ≡ true
    → parts_of (d ∷ 46 ∷ (ds ++ (101 ∷ t))) ≡ make_parts (d ∷ []) (46 ∷ ds) (101 ∷ t)
pointed-parts d ds t h all =
    let one : all_are is_digit (d ∷ []) ≡ true = rw h refl in
    digits-parts (d ∷ []) (46 ∷ (ds ++ (101 ∷ t))) one ∙ rw (parts-point (ds ++ (101 ∷ t)), digits-cut ds t all) refl

-- ---- what they spell

or-true : (x : Bool) → (x || true) ≡ true
or-true true = refl
or-true false = refl

whole-one : (d : ℕ) → is_digit d ≡ true → is_whole (d ∷ []) ≡ true
whole-one d h = rw (h, or-true (not (d == 48))) refl

-- what parts of a float's shape spell
spelled : (s : Bool) (whole fraction t : List ℕ) (n : ℕ) (e z : ℤ) → is_whole whole ≡ true → is_fraction fraction ≡ true → Power e t
    → digits_value 10 (filter is_digit whole ++ fraction_digits fraction) ≡ n → e -ℤ pos (length (fraction_digits fraction)) ≡ z
    → float_of_parts s (make_parts whole fraction (101 ∷ t)) ≡ finite (nearest_to_decimal binary64 s n z)
spelled s whole fraction t n e z w f p value less =
    let shape : is_power is_float_mark (101 ∷ t) ≡ true = p.shape in
    let exponent : power_value (101 ∷ t) ≡ e = p.value in
    rw (w, f, shape, value, exponent, less) refl

parts-read : (s : Bool) (d : ℕ) (ds t : List ℕ) (e : ℤ) → all_are is_digit (d ∷ ds) ≡ true → Power e t
    → float_of_parts s (parts_of (pointed (d ∷ ds) ++ (101 ∷ t)))
    ≡ finite (nearest_to_decimal binary64 s (digits_value 10 (d ∷ ds)) (e -ℤ pos (length ds)))
parts-read s d [] t e h p =
    let digit = (and_parts (is_digit d) true h).0 in
    let same : filter is_digit (d ∷ []) ++ [] ≡ d ∷ [] = rw digit refl in
    ap (float_of_parts s) (whole-parts d t digit)
    ∙ spelled s (d ∷ []) [] t (digits_value 10 (d ∷ [])) e (e -ℤ pos 0) (whole-one d digit) refl p (ap (digits_value 10) same) refl
parts-read s d (f ∷ ds) t e h p =
    let parts = and_parts (is_digit d) (all_are is_digit (f ∷ ds)) h in
    let whole : filter is_digit (d ∷ []) ≡ d ∷ [] = rw parts.0 refl in
    let fraction : fraction_digits (46 ∷ f ∷ ds) ≡ f ∷ ds = all-filter (f ∷ ds) parts.1 in
    ap (float_of_parts s) (pointed-parts d (f ∷ ds) t parts.0 parts.1)
    ∙ spelled s (d ∷ []) (46 ∷ f ∷ ds) t (digits_value 10 (d ∷ f ∷ ds)) e (e -ℤ pos (length (f ∷ ds))) (whole-one d parts.0) (all-some f ds parts.1) p
    (ap (digits_value 10) (ap (λ (xs : List ℕ). xs ++ fraction_digits (46 ∷ f ∷ ds)) whole ∙ ap (λ (xs : List ℕ). d ∷ xs) fraction))
    (ap (λ (xs : List ℕ). e -ℤ pos (length xs)) fraction)

-- ---- the sign

either-sign : (b s : Bool) (x y : Float) → x ≡ float_with_sign s y → cond b x (inf s) ≡ float_with_sign s (cond b y (inf false))
unfolding float_with_sign
either-sign true s x y h = h
either-sign false s x y h = refl

units-sign : (f : Format) (s : Bool) (q k : ℕ) → units f s q k ≡ float_with_sign s (units f false q k)
unfolding units
units-sign f s q k = either-sign (ltb (q * 2 ^ k) (2 ^ (low f + suc (emax f)))) s _ _ (odd_sign (suc (prec f)) s q k (low f))

round-sign : (f : Format) (s : Bool) (a b : ℕ) → round f s a b ≡ float_with_sign s (round f false a b)
round-sign f s a b = round_is f s a b ∙ units-sign f s _ _ ∙ ap (float_with_sign s) (sym (round_is f false a b))

-- ---- a number

digit-plus : (d : ℕ) → is_digit d ≡ true → (d == 45) ≡ false
digit-plus d e = grind (arith, nat_tests)

plus-pointed : (ds rest : List ℕ) → 0 < length ds → all_are is_digit ds ≡ true → has_minus (pointed ds ++ rest) ≡ false
plus-pointed [] rest some h = absurd (omega arith)
plus-pointed (d ∷ []) rest some h = digit-plus d (and_parts (is_digit d) true h).0
plus-pointed (d ∷ f ∷ ds) rest some h = digit-plus d (and_parts (is_digit d) (all_are is_digit (f ∷ ds)) h).0

first-pointed : (ds rest : List ℕ) → 0 < length ds → all_are is_digit ds ≡ true → first_is is_digit (pointed ds ++ rest) ≡ true
first-pointed [] rest some h = absurd (omega arith)
first-pointed (d ∷ []) rest some h = (and_parts (is_digit d) true h).0
first-pointed (d ∷ f ∷ ds) rest some h = (and_parts (is_digit d) (all_are is_digit (f ∷ ds)) h).0

exponent-within : (count row : ℕ) → count ≤ 17 → row ≤ 651 → IsExponent (exponent_of count row)
exponent-within count row few within = (omega (arith, ints), omega (arith, ints))

row-left : (k row : ℕ) → exponent_of (suc k) row -ℤ pos k ≡ pos (row - 342) -ℤ pos (342 - row)
row-left k row = omega (arith, ints)

spelled-read : (s : Bool) (n row : ℕ) (ds : List ℕ) → Spells n ds → length ds ≤ 17 → row ≤ 651
    → float_of_parts s (parts_of (pointed ds ++ (101 ∷ integer_text (exponent_of (length ds) row)))) ≡ finite (round binary64 s (n * 10 ^ (row - 342)) (10 ^ (342 - row)))
spelled-read s n row [] w few within = absurd (omega (arith, w.some))
spelled-read s n row (d ∷ ds) w few within =
    let e = exponent_of (suc (length ds)) row in
    parts-read s d ds (integer_text e) e w.digits (power-written e (exponent-within (suc (length ds)) row few within))
    ∙ ap (λ (m : ℕ). finite (nearest_to_decimal binary64 s m (e -ℤ pos (length ds)))) w.value
    ∙ ap finite (nearest-tens binary64 s n (row - 342) (342 - row) (e -ℤ pos (length ds)) (row-left (length ds) row))

-- the text of digits and a row
record ReadsAs (s : Bool) (text : List ℕ) (x : Float) : Type 0 where
  plus : has_minus text ≡ false
  first : first_is is_digit text ≡ true
  value : float_of_parts s (parts_of text) ≡ finite x

digits-read : (s : Bool) (n row : ℕ) → n < 10 ^ 17 → row ≤ 651 → ReadsAs s (digits_text (n, row)) (round binary64 s (n * 10 ^ (row - 342)) (10 ^ (342 - row)))
digits-read s n row small within =
    let w = spells n (omega arith) in
    record {
      plus = plus-pointed (decimal n) (101 ∷ integer_text (exponent_of (length (decimal n)) row)) w.some w.digits;
      first = first-pointed (decimal n) (101 ∷ integer_text (exponent_of (length (decimal n)) row)) w.some w.digits;
      value = spelled-read s n row (decimal n) w (digits-short n small) within;
    }

-- ---- the laws

-- no number begins like a word
digit-no_letter : (d : ℕ) → is_digit d ≡ true → ((d == 110) ≡ false) × ((d == 43) ≡ false) × ((d == 45) ≡ false) × ((d == 105) ≡ false)
digit-no_letter d e = (grind (arith, nat_tests), grind (arith, nat_tests), grind (arith, nat_tests), grind (arith, nat_tests))

no-word : (s : Bool) (text : List ℕ) → first_is is_digit text ≡ true → float_word (signed_text s text) ≡ None
no-word s [] h = absurd (true≢false (sym h))
no-word true (d ∷ text) h = let other = digit-no_letter d h in rw other.3 refl
no-word false (d ∷ text) h = let other = digit-no_letter d h in rw (other.0, other.1, other.2) refl

signed-finite : (s : Bool) (m : ℕ) (e : ℤ) → float_with_sign s (fin false m e) ≡ fin s m e
unfolding float_with_sign
signed-finite s m e = refl

unsigned-fits : (s : Bool) (m : ℕ) (e : ℤ) → T (fits binary64 (fin s (suc m) e)) → T (fits binary64 (fin false (suc m) e))
unfolding fits
unsigned-fits s m e h = h

number-read : (s : Bool) (m : ℕ) (e : ℤ) → T (fits binary64 (fin s (suc m) e)) → ReadsAs s (magnitude_text (suc m) e) (fin s (suc m) e)
number-read s m e h =
    let x = fin false (suc m) e in
    let fit = unsigned-fits s m e h in
    let b = to_bits binary64 x in
    let back = of_bits-to_bits binary64 x fit in
    let above = above-zero b m e (to_bits-lt binary64 x fit) back in
    let n = (shortest b).0 in
    let row = (shortest b).1 in
    let read : round binary64 false (n * 10 ^ (row - 342)) (10 ^ (342 - row)) ≡ x = shortest_reads b above.1 (is-positive b above) ∙ back in
    let signed_read : round binary64 s (n * 10 ^ (row - 342)) (10 ^ (342 - row)) ≡ fin s (suc m) e =
    round-sign binary64 s (n * 10 ^ (row - 342)) (10 ^ (342 - row)) ∙ ap (float_with_sign s) read ∙ signed-finite s (suc m) e in
    subst (ReadsAs s (digits_text (shortest b))) signed_read (digits-read s n row (few-digits b above) (shortest-row b))

zero-read : (s : Bool) (e : ℤ) → T (fits binary64 (fin s zero e)) → fin s zero (pos 0) ≡ fin s zero e
zero-read s e h = same_value binary64 (fin s zero (pos 0)) (fin s zero e) s 0 1 (zero_fits binary64 s) h (omega arith) (refl, refl) (refl, omega arith)

plain-zero : (e : ℤ) → float_of_text (float_text (fin false zero e)) ≡ Ok (fin false zero (pos 0))
unfolding float_of_text parts_of cut_at round
plain-zero e = refl

minus-zero : (e : ℤ) → float_of_text (float_text (fin true zero e)) ≡ Ok (fin true zero (pos 0))
unfolding float_of_text parts_of cut_at round
minus-zero e = refl

of-run : (run text : List ℕ) (s : Bool) → float_word run ≡ None → has_minus run ≡ s → without_minus run ≡ text → float_of_text run ≡ float_of_parts s (parts_of text)
unfolding float_of_text
of-run run text s word sign rest =
    ap (λ (w : Option Float). or_else w (float_of_parts (has_minus run) (parts_of (without_minus run)))) word
    ∙ ap (λ (b : Bool). float_of_parts b (parts_of (without_minus run))) sign
    ∙ ap (λ (xs : List ℕ). float_of_parts s (parts_of xs)) rest

signed-read : (s : Bool) (text : List ℕ) (x : Float) → ReadsAs s text x → finite x ≡ Ok x → float_of_text (signed_text s text) ≡ Ok x
signed-read s text x r ok =
    let sign = sign-read s text r.plus in
    of-run (signed_text s text) text s (no-word s text r.first) sign.0 sign.1 ∙ r.value ∙ ok

-- reading a float's text gives the float
pub text-read : (x : Float) → T (fits binary64 x) → float_of_text (float_text x) ≡ Ok x
unfolding float_of_text
text-read nan h = refl
text-read (inf false) h = refl
text-read (inf true) h = refl
text-read (fin false zero e) h = plain-zero e ∙ ap (λ (x : Float). Ok x) (zero-read false e h)
text-read (fin true zero e) h = minus-zero e ∙ ap (λ (x : Float). Ok x) (zero-read true e h)
text-read (fin false (suc m) e) h = signed-read false (magnitude_text (suc m) e) (fin false (suc m) e) (number-read false m e h) refl
text-read (fin true (suc m) e) h = signed-read true (magnitude_text (suc m) e) (fin true (suc m) e) (number-read true m e h) refl

-- so floats with one text are one
ok-same : (r : Result Float Reason) (x y : Float) → r ≡ Ok x → r ≡ Ok y → x ≡ y
ok-same r x y h k = cc

pub text-unique : (x y : Float) → T (fits binary64 x) → T (fits binary64 y) → float_text x ≡ float_text y → x ≡ y
text-unique x y p q e = ok-same (float_of_text (float_text x)) x y (text-read x p) (ap float_of_text e ∙ text-read y q)
