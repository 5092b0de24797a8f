-- A numeral is read from digits, a point and digits or none, and an exponent.
use Rattle.std.proofs.Common.{◌≡◌, ℕ, ◌+◌, ◌-◌, Bool, true, false, cond, ◌&&◌, List, [], ◌∷◌, ◌++◌, length, get_or, slice_range, refl, sym, ap, ◌∙◌, arith, append_assoc}
use lib.Dec.{eqb}
use lib.Seq.{get_or-append-add, drop_at, take_at}
use Rattle.std.proofs.lemmas.Bool.{and_parts}
use Rattle.std.proofs.lemmas.Bool.Decides.{nat_tests}
use Rattle.std.proofs.lemmas.List.{length-append, append-nil}
use Rattle.std.specs.Float.Numeral.{Parts, digits_len, digits_end, exponent_start, has_exponent, scan_numeral}
use Rattle.ion_value.specs.Digits.{is_digit, all_are}
use Rattle.ion_value.specs.FloatText.{is_float_mark}

-- ---- digits, after what stands in front of them

digits_len-append : (ds rest : List ℕ) → all_are is_digit ds ≡ true → digits_len (ds ++ rest) ≡ length ds + digits_len rest
digits_len-append [] rest h = omega arith
digits_len-append (d ∷ ds) rest h =
    let parts = and_parts (is_digit d) (all_are is_digit ds) h in
    rw parts.0 (omega (arith, digits_len-append ds rest parts.1))

run-end : (front ds rest : List ℕ) (i : ℕ) → length front ≡ i → all_are is_digit ds ≡ true → digits_len rest ≡ 0
    → digits_end (front ++ (ds ++ rest)) i ≡ i + length ds
run-end front ds rest i at digits ends = rw (drop_at front (ds ++ rest) i at) (omega (arith, digits_len-append ds rest digits))

run-is : (front ds rest : List ℕ) (i : ℕ) → length front ≡ i → slice_range (front ++ (ds ++ rest)) i (i + length ds) ≡ ds
run-is front ds rest i at = rw (drop_at front (ds ++ rest) i at) (take_at ds rest (i + length ds - i) (omega arith))

byte-after : (front rest : List ℕ) (i k : ℕ) → length front ≡ i → get_or (front ++ rest) (i + k) 0 ≡ get_or rest k 0
byte-after front rest i k at = rw (← at) (get_or-append-add front rest k 0)

byte-at : (front rest : List ℕ) (i : ℕ) → length front ≡ i → get_or (front ++ rest) i 0 ≡ get_or rest 0 0
byte-at front rest i at =
    let none : i + 0 ≡ i = omega arith in
    rw none at (byte-after front rest i 0 at)

-- ---- the exponent

-- what is read from a place on is an exponent, up to the end
record Tail (bs : List ℕ) (b : ℕ) (negative : Bool) (exponent : List ℕ) : Type 0 where
  sign : (has_exponent bs b && eqb (get_or bs (b + 1) 0) 45) ≡ negative
  digits : cond (has_exponent bs b) (slice_range bs (exponent_start bs b) (digits_end bs (exponent_start bs b))) [] ≡ exponent
  ends : cond (has_exponent bs b) (digits_end bs (exponent_start bs b)) b ≡ length bs

tail-of : (bs : List ℕ) (b s : ℕ) (negative : Bool) (exponent : List ℕ) → has_exponent bs b ≡ true → exponent_start bs b ≡ s → eqb (get_or bs (b + 1) 0) 45 ≡ negative
    → digits_end bs s ≡ s + length exponent → slice_range bs s (s + length exponent) ≡ exponent → s + length exponent ≡ length bs → Tail bs b negative exponent
tail-of bs b s negative exponent has start sign end is long =
    record { sign = rw has sign; digits = rw (has, start, end) is; ends = rw (has, start, end) long }

-- a mark, a sign or none, and digits
tail : (front sign : List ℕ) (c d : ℕ) (ds : List ℕ) (b : ℕ) (negative : Bool) → length front ≡ b → is_float_mark c ≡ true → all_are is_digit (d ∷ ds) ≡ true
    → let bs = front ++ (c ∷ (sign ++ (d ∷ ds))) in
    exponent_start bs b ≡ b + 1 + length sign → eqb (get_or bs (b + 1) 0) 45 ≡ negative → Tail bs b negative (d ∷ ds)
tail front sign c d ds b negative at mark digits start minus =
    let bs = front ++ (c ∷ (sign ++ (d ∷ ds))) in
    let before = front ++ (c ∷ sign) in
    let long : length before ≡ b + 1 + length sign = omega (arith, length-append front (c ∷ sign)) in
    let cut : before ++ ((d ∷ ds) ++ []) ≡ bs = ap (λ (t : List ℕ). before ++ t) (append-nil (d ∷ ds)) ∙ append_assoc front (c ∷ sign) (d ∷ ds) in
    let first : get_or bs (b + 1 + length sign) 0 ≡ d = ap (λ (t : List ℕ). get_or t (b + 1 + length sign) 0) (sym cut) ∙ byte-at before ((d ∷ ds) ++ []) (b + 1 + length sign) long in
    let digit = (and_parts (is_digit d) (all_are is_digit ds) digits).0 in
    let has : has_exponent bs b ≡ true = rw (start, first, byte-at front _ b at, mark) digit in
    let whole : length bs ≡ length before + length (d ∷ ds) = ap (λ (t : List ℕ). length t) (sym (append_assoc front (c ∷ sign) (d ∷ ds))) ∙ length-append before (d ∷ ds) in
    tail-of bs b (b + 1 + length sign) negative (d ∷ ds) has start minus
    (rw cut at (run-end before (d ∷ ds) [] (b + 1 + length sign) long digits refl))
    (rw cut at (run-is before (d ∷ ds) [] (b + 1 + length sign) long)) (omega (arith, whole, long))

-- the signs that an exponent may have, and whether it is below zero
pub data IsSign : List ℕ → Bool → Type 0 where
  none : IsSign [] false
  plus : IsSign (43 ∷ []) false
  minus : IsSign (45 ∷ []) true

digit-no_sign : (d : ℕ) → is_digit d ≡ true → (eqb d 45 ≡ false) × (eqb d 43 ≡ false)
digit-no_sign d e = (grind (arith, nat_tests), grind (arith, nat_tests))

mark-no_digit : (c : ℕ) → is_float_mark c ≡ true → (is_digit c ≡ false) × (eqb c 46 ≡ false)
mark-no_digit c e = (grind (arith, nat_tests), grind (arith, nat_tests))

exponent-tail : (front sign : List ℕ) (c d : ℕ) (ds : List ℕ) (b : ℕ) (negative : Bool) → IsSign sign negative → length front ≡ b → is_float_mark c ≡ true
    → all_are is_digit (d ∷ ds) ≡ true → Tail (front ++ (c ∷ (sign ++ (d ∷ ds)))) b negative (d ∷ ds)
exponent-tail front _ c d ds b _ none at mark digits =
    let next : get_or (front ++ (c ∷ (d ∷ ds))) (b + 1) 0 ≡ d = byte-after front (c ∷ (d ∷ ds)) b 1 at in
    let other = digit-no_sign d (and_parts (is_digit d) (all_are is_digit ds) digits).0 in
    tail front [] c d ds b false at mark digits (rw (next, other.0, other.1) (omega arith)) (rw next other.0)
exponent-tail front _ c d ds b _ plus at mark digits =
    let next : get_or (front ++ (c ∷ (43 ∷ (d ∷ ds)))) (b + 1) 0 ≡ 43 = byte-after front (c ∷ (43 ∷ (d ∷ ds))) b 1 at in
    tail front (43 ∷ []) c d ds b false at mark digits (rw next (omega arith)) (rw next refl)
exponent-tail front _ c d ds b _ minus at mark digits =
    let next : get_or (front ++ (c ∷ (45 ∷ (d ∷ ds)))) (b + 1) 0 ≡ 45 = byte-after front (c ∷ (45 ∷ (d ∷ ds))) b 1 at in
    tail front (45 ∷ []) c d ds b true at mark digits (rw next (omega arith)) (rw next refl)

-- ---- the whole

-- the parts of a numeral
abbrev pub numeral : List ℕ → Bool → List ℕ → Bool → List ℕ → ℕ → Parts
numeral whole point fraction negative exponent count =
    record { whole = whole; point = point; fraction = fraction; exponent_negative = negative; exponent = exponent; len = count }

scan-is : (bs whole fraction exponent : List ℕ) (point negative : Bool) (a b : ℕ) → digits_end bs 0 ≡ a → eqb (get_or bs a 0) 46 ≡ point
    → cond point (digits_end bs (a + 1)) a ≡ b → slice_range bs 0 a ≡ whole → cond point (slice_range bs (a + 1) b) [] ≡ fraction → Tail bs b negative exponent
    → scan_numeral bs ≡ numeral whole point fraction negative exponent (length bs)
unfolding scan_numeral
scan-is bs whole fraction exponent point negative a b ends dot next is rest t =
    rw (ends, dot, next) (λ i. numeral (is i) point (rest i) (t.sign i) (t.digits i) (t.ends i))

-- digits, and an exponent
pub scan-plain : (whole sign : List ℕ) (c d : ℕ) (ds : List ℕ) (negative : Bool) → IsSign sign negative → all_are is_digit whole ≡ true → is_float_mark c ≡ true
    → all_are is_digit (d ∷ ds) ≡ true → let bs = whole ++ (c ∷ (sign ++ (d ∷ ds))) in
    scan_numeral bs ≡ numeral whole false [] negative (d ∷ ds) (length bs)
scan-plain whole sign c d ds negative s w mark digits =
    let rest = c ∷ (sign ++ (d ∷ ds)) in
    let a = 0 + length whole in
    let at : length whole ≡ a = omega arith in
    let other = mark-no_digit c mark in
    let ends : digits_len rest ≡ 0 = rw other.0 refl in
    scan-is (whole ++ rest) whole [] (d ∷ ds) false negative a a (run-end [] whole rest 0 refl w ends) (rw (byte-at whole rest a at) other.1) refl
    (run-is [] whole rest 0 refl) refl (exponent-tail whole sign c d ds a negative s at mark digits)

-- digits, a point and digits or none, and an exponent
pub scan-pointed : (whole fraction sign : List ℕ) (c d : ℕ) (ds : List ℕ) (negative : Bool) → IsSign sign negative → all_are is_digit whole ≡ true
    → all_are is_digit fraction ≡ true → is_float_mark c ≡ true → all_are is_digit (d ∷ ds) ≡ true
    → let bs = whole ++ (46 ∷ (fraction ++ (c ∷ (sign ++ (d ∷ ds))))) in
    scan_numeral bs ≡ numeral whole true fraction negative (d ∷ ds) (length bs)
scan-pointed whole fraction sign c d ds negative s w f mark digits =
    let rest = c ∷ (sign ++ (d ∷ ds)) in
    let bs = whole ++ (46 ∷ (fraction ++ rest)) in
    let a = 0 + length whole in
    let at : length whole ≡ a = omega arith in
    let other = mark-no_digit c mark in
    let ends : digits_len rest ≡ 0 = rw other.0 refl in
    let dotted = whole ++ (46 ∷ []) in
    let long : length dotted ≡ a + 1 = omega (arith, length-append whole (46 ∷ [])) in
    let cut : dotted ++ (fraction ++ rest) ≡ bs = append_assoc whole (46 ∷ []) (fraction ++ rest) in
    let front : (whole ++ (46 ∷ fraction)) ++ rest ≡ bs = append_assoc whole (46 ∷ fraction) rest in
    let b = a + 1 + length fraction in
    let after : length (whole ++ (46 ∷ fraction)) ≡ b = omega (arith, length-append whole (46 ∷ fraction)) in
    scan-is bs whole fraction (d ∷ ds) true negative a b (run-end [] whole (46 ∷ (fraction ++ rest)) 0 refl w refl) (rw (byte-at whole (46 ∷ (fraction ++ rest)) a at) refl)
    (rw cut at (run-end dotted fraction rest (a + 1) long f ends)) (run-is [] whole (46 ∷ (fraction ++ rest)) 0 refl)
    (rw cut at (run-is dotted fraction rest (a + 1) long))
    (rw front at (exponent-tail (whole ++ (46 ∷ fraction)) sign c d ds b negative s after mark digits))
