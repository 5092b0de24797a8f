-- What is parsed from a run that is a float, without its underscores, is the float nearest to the number that its parts spell.
use Rattle.std.proofs.Common.{◌≡◌, ℕ, suc, ◌+◌, ◌*◌, ◌^◌, ◌<◌, ℤ, pos, negsuc, ◌-ℤ◌, Bool, true, false, ◌==◌, if◌then◌else◌, Some, List, [], ◌∷◌, ◌++◌, length, get_or, pow-add, map, filter, refl, sym, ap, ◌∙◌, arith}
use Rattle.std.proofs.lemmas.Bool.{and_parts, lt-ltb, eq-eqb}
use Rattle.std.proofs.lemmas.Bool.Decides.{nat_tests}
use Rattle.std.proofs.lemmas.Int.{ints}
use Rattle.std.proofs.lemmas.List.{length-map}
use Rattle.std.specs.Float.Numeral.{scan_numeral, nearest_float}
use Rattle.std.specs.Float.Parse.{read_float, parse_float}
use Rattle.std.specs.Str.Parse as str
use Rattle.std.specs.Char as char
use Rattle.core.proofs.dec2flt.DigitsLemmas.{digits_value_after_is}
use Rattle.fast_float.specs.Rounding.{nearest_to_decimal}
use Rattle.fast_float.proofs.ExactLemmas.{ten_to_pos}
use lib.Ieee.{Float, Format, binary64, round}
use lib.Ieee.Scale.{round_same}
use Rattle.ion_value.specs.Number.{number, signed}
use Rattle.ion_value.specs.Digits.{is_digit, digit_value, digits_value, all_are, has_minus, without_minus}
use Rattle.ion_value.specs.Decimal.{Parts, parts_of, fraction_digits, power_value}
use Rattle.ion_value.proofs.LeadingDigits.{all_are-append}
use Rattle.ion_value.specs.FloatText.{is_float}
use Rattle.ion_float.proofs.Scanning.{numeral, scan-plain, scan-pointed}
use Rattle.ion_float.proofs.Closing.{closed, closed-all, filter-digits, Begins, filter-begins, IsFraction, without, pointed, fraction-is, Exponent, exponent-is, shape-is, parts-closed, sign-run}

-- ---- the number that digits spell, in the two words for it

one-digit : (d : ℕ) → is_digit d ≡ true → char.digit_value d ≡ digit_value d
one-digit d e = grind (arith, nat_tests)

spelled-alike : (ds : List ℕ) → all_are is_digit ds ≡ true → str.digits_value 10 ds ≡ number 10 (map digit_value ds)
spelled-alike [] h = refl
spelled-alike (d ∷ ds) h =
    let parts = and_parts (is_digit d) (all_are is_digit ds) h in
    let long : length (map digit_value ds) ≡ length ds = simp length-map in
    let none : 0 * 10 + char.digit_value d ≡ digit_value d = omega (arith, one-digit d parts.0) in
    digits_value_after_is (0 * 10 + char.digit_value d) ds ∙ rw (none, spelled-alike ds parts.1, long) refl

pub same-value : (ds : List ℕ) → all_are is_digit ds ≡ true → str.digits_value 10 ds ≡ digits_value 10 ds
same-value ds h = spelled-alike ds h ∙ ap (λ (xs : List ℕ). number 10 (map digit_value xs)) (sym (closed-all ds h))

-- ---- a power of ten in two parts

up-shifted : (n u d k : ℕ) → u ≡ k + d → n * 10 ^ k * 10 ^ d ≡ n * 10 ^ u * 1
up-shifted n u d k e = omega (arith, ap (λ (z : ℕ). n * z) (sym (pow-add 10 k d) ∙ ap (λ (z : ℕ). 10 ^ z) (sym e)))

down-shifted : (n u d k : ℕ) → d ≡ u + k → n * 10 ^ d ≡ n * 10 ^ u * 10 ^ k
down-shifted n u d k e = omega (arith, ap (λ (z : ℕ). n * z) (ap (λ (z : ℕ). 10 ^ z) e ∙ pow-add 10 u k))

pub nearest-tens : (f : Format) (s : Bool) (n u d : ℕ) (z : ℤ) → z ≡ pos u -ℤ pos d → nearest_to_decimal f s n z ≡ round f s (n * 10 ^ u) (10 ^ d)
nearest-tens f s n u d (pos k) e = round_same f s (n * 10 ^ k) 1 (n * 10 ^ u) (10 ^ d) (omega arith) (ten_to_pos d) (up-shifted n u d k (omega (arith, ints)))
nearest-tens f s n u d (negsuc k) e = round_same f s n (10 ^ suc k) (n * 10 ^ u) (10 ^ d) (ten_to_pos (suc k)) (ten_to_pos d) (down-shifted n u d (suc k) (omega (arith, ints)))

-- ---- parsing

digit-no_sign : (d : ℕ) → is_digit d ≡ true → ((d == 45) ≡ false) × ((d == 43) ≡ false)
digit-no_sign d e = (grind (arith, nat_tests), grind (arith, nat_tests))

first-byte : (bytes rest : List ℕ) (d : ℕ) → bytes ≡ d ∷ rest → get_or bytes 0 0 ≡ d
first-byte bytes rest d e = rw e refl

parse-scanned : (s : Bool) (whole fraction exponent bytes : List ℕ) (d : ℕ) (rest : List ℕ) (point negative : Bool) → bytes ≡ d ∷ rest → is_digit d ≡ true → 0 < length whole
    → scan_numeral bytes ≡ numeral whole point fraction negative exponent (length bytes)
    → parse_float binary64 ((if s then 45 ∷ [] else []) ++ bytes) ≡ Some (nearest_float binary64 s (numeral whole point fraction negative exponent (length bytes)))
unfolding read_float
parse-scanned true whole fraction exponent bytes d rest point negative is digit some scanned =
    rw (scanned, lt-ltb 0 (length whole + length fraction) (omega arith), eq-eqb (1 + length bytes) (suc (length bytes)) (omega arith)) refl
parse-scanned false whole fraction exponent bytes d rest point negative is digit some scanned =
    let first = first-byte bytes rest d is in
    let other = digit-no_sign d digit in
    rw (first, other.0, other.1, scanned, lt-ltb 0 (length whole + length fraction) (omega arith), eq-eqb (0 + length bytes) (length bytes) (omega arith)) refl

-- ---- the number of a numeral

below-less : (v k : ℕ) → signed true v -ℤ pos k ≡ pos 0 -ℤ pos (k + v)
below-less v k = omega (arith, ints)

above-less : (v k : ℕ) → signed false v -ℤ pos k ≡ pos v -ℤ pos (k + 0)
above-less v k = omega (arith, ints)

numeral-value : (s : Bool) (whole fraction exponent : List ℕ) (point negative : Bool) (count : ℕ) → all_are is_digit whole ≡ true → all_are is_digit fraction ≡ true
    → all_are is_digit exponent ≡ true → nearest_float binary64 s (numeral whole point fraction negative exponent count)
    ≡ nearest_to_decimal binary64 s (digits_value 10 (whole ++ fraction)) (signed negative (digits_value 10 exponent) -ℤ pos (length fraction))
numeral-value s whole fraction exponent point true count w f e =
    let all : all_are is_digit (whole ++ fraction) ≡ true = all_are-append is_digit whole fraction ∙ rw (w, f) refl in
    rw (same-value (whole ++ fraction) all, same-value exponent e)
    (sym (nearest-tens binary64 s (digits_value 10 (whole ++ fraction)) 0 (length fraction + digits_value 10 exponent) _ (below-less (digits_value 10 exponent) (length fraction))))
numeral-value s whole fraction exponent point false count w f e =
    let all : all_are is_digit (whole ++ fraction) ≡ true = all_are-append is_digit whole fraction ∙ rw (w, f) refl in
    rw (same-value (whole ++ fraction) all, same-value exponent e)
    (sym (nearest-tens binary64 s (digits_value 10 (whole ++ fraction)) (digits_value 10 exponent) (length fraction + 0) _ (above-less (digits_value 10 exponent) (length fraction))))

-- ---- the whole run

-- the float nearest to the number that parts spell
abbrev pub nearest-parts : Bool → Parts → Float
nearest-parts s p =
    nearest_to_decimal binary64 s (digits_value 10 (filter is_digit p.whole ++ fraction_digits p.fraction)) (power_value p.power -ℤ pos (length (fraction_digits p.fraction)))

parse-made : (s : Bool) (whole text fraction power : List ℕ) (e : Exponent power) → Begins whole → all_are is_digit whole ≡ true → IsFraction text fraction
    → parse_float binary64 ((if s then 45 ∷ [] else []) ++ (whole ++ (text ++ (e.mark ∷ (e.sign ++ (e.first ∷ e.rest))))))
    ≡ Some (nearest_to_decimal binary64 s (digits_value 10 (whole ++ fraction)) (power_value power -ℤ pos (length fraction)))
parse-made s whole _ _ power e begins w without =
    let rest = e.mark ∷ (e.sign ++ (e.first ∷ e.rest)) in
    let bytes = whole ++ rest in
    let starts : bytes ≡ begins.first ∷ (begins.rest ++ rest) = ap (λ (ys : List ℕ). ys ++ rest) begins.is in
    let long = ap (λ (ys : List ℕ). length ys) begins.is in
    parse-scanned s whole [] (e.first ∷ e.rest) bytes begins.first (begins.rest ++ rest) false e.negative starts begins.digit (omega (arith, long))
    (scan-plain whole e.sign e.mark e.first e.rest e.negative e.signs w e.marks e.digits)
    ∙ ap (λ (x : Float). Some x) (numeral-value s whole [] (e.first ∷ e.rest) false e.negative (length bytes) w refl e.digits
    ∙ ap (λ (z : ℤ). nearest_to_decimal binary64 s (digits_value 10 (whole ++ [])) (z -ℤ pos 0)) (sym e.value))
parse-made s whole _ _ power e begins w (pointed fraction f) =
    let rest = e.mark ∷ (e.sign ++ (e.first ∷ e.rest)) in
    let bytes = whole ++ (46 ∷ (fraction ++ rest)) in
    let starts : bytes ≡ begins.first ∷ (begins.rest ++ (46 ∷ (fraction ++ rest))) = ap (λ (ys : List ℕ). ys ++ (46 ∷ (fraction ++ rest))) begins.is in
    let long = ap (λ (ys : List ℕ). length ys) begins.is in
    parse-scanned s whole fraction (e.first ∷ e.rest) bytes begins.first (begins.rest ++ (46 ∷ (fraction ++ rest))) true e.negative starts begins.digit (omega (arith, long))
    (scan-pointed whole fraction e.sign e.mark e.first e.rest e.negative e.signs w f e.marks e.digits)
    ∙ ap (λ (x : Float). Some x) (numeral-value s whole fraction (e.first ∷ e.rest) true e.negative (length bytes) w f e.digits
    ∙ ap (λ (z : ℤ). nearest_to_decimal binary64 s (digits_value 10 (whole ++ fraction)) (z -ℤ pos (length fraction))) (sym e.value))

pub parse-is : (run : List ℕ) → is_float (parts_of (without_minus run)) ≡ true
    → parse_float binary64 (closed run) ≡ Some (nearest-parts (has_minus run) (parts_of (without_minus run)))
parse-is run h =
    let bytes = without_minus run in
    let p = parts_of bytes in
    let shape = shape-is p h in
    let e = exponent-is p.power shape.power in
    ap (parse_float binary64) (sign-run run ∙ ap (λ (ys : List ℕ). (if has_minus run then 45 ∷ [] else []) ++ ys) (parts-closed bytes shape e))
    ∙ parse-made (has_minus run) (filter is_digit p.whole) (closed p.fraction) (fraction_digits p.fraction) p.power e (filter-begins p.whole shape.whole) (filter-digits p.whole)
    (fraction-is bytes shape.fraction)
