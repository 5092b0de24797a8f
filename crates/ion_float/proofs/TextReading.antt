-- What is read from a run by its shape, and what is parsed from it.
use Rattle.std.proofs.Common.{◌≡◌, ◌⊎◌, ℕ, suc, ◌*◌, ◌^◌, ℤ, pos, negsuc, IfOk, IfErr, IfSome, codes, ◌++◌, ◌-ℤ◌, Bool, true, false, not, ◌&&◌, ◌||◌, ◌==◌, nat_lt, if◌then◌else◌, T, Option, Some, None, Result, Ok, Err, List, [], ◌∷◌, length, filter, inl, inr, refl, sym, ap, ◌∙◌, arith}
use mathlib.Core.Bool.{true≢false}
use Rattle.std.proofs.lemmas.Bool.{cases_Bool, and_parts, ne_eqb}
use Rattle.std.proofs.lemmas.Bool.Decides.{nat_tests}
use Rattle.std.specs.Float.{float_is_finite}
use Rattle.std.specs.Float.Parse.{parse_float}
use lib.Ieee.{Float, Format, nan, inf, fin, binary64, fits}
use lib.Ieee.Fits.{round-fits}
use Rattle.fast_float.specs.Rounding.{nearest_to_decimal}
use Rattle.ion_value.specs.Float.{IsFloat}
use Rattle.ion_meter.specs.declared.fault.Reason.{Reason}
use Rattle.ion_meter.specs.declared.fault.Reason.TheVariants.{BadToken, Range}
use Rattle.ion_meter.specs.declared.fault.Reason.TheVariants as reason
use Rattle.ion_value.specs.declared.decimal.Decimal.{Decimal}
use Rattle.std.specs.Str.{bytes_eq}
use Rattle.ion_value.specs.Digits.{all_are, is_digit, digits_value, has_minus, without_minus}
use Rattle.ion_value.specs.Decimal.{Parts, parts_of, is_exponent_mark, is_decimal_mark, is_mantissa, is_power, power_digits, power_value, fraction_digits, decimal_of_parts, decimal_of_text}
use Rattle.ion_value.specs.FloatText.{is_float_mark, is_float, finite, float_word, or_else, float_of_parts, float_of_text}
use Rattle.ion_float.proofs.Closing.{closed}
use Rattle.ion_float.proofs.Parsing.{nearest-parts, parse-is}

-- ---- the shape of a float is what a decimal is refused for

mark-float : (c : ℕ) → is_float_mark c ≡ true → (is_decimal_mark c ≡ false) × (is_exponent_mark c ≡ true)
mark-float c e = (grind (arith, nat_tests), grind (arith, nat_tests))

mark-left : (c : ℕ) → is_exponent_mark c ≡ true → is_decimal_mark c ≡ false → is_float_mark c ≡ true
mark-left c e d = grind (arith, nat_tests)

power-float : (power : List ℕ) → is_power is_float_mark power ≡ true
    → (is_power is_decimal_mark power ≡ false) × (is_power is_exponent_mark power ≡ true) × ((length power == 0) ≡ false)
power-float [] h = absurd (true≢false (sym h))
power-float (c ∷ ys) h =
    let all = and_parts (is_float_mark c && nat_lt 0 (length (power_digits (c ∷ ys)))) (all_are is_digit (power_digits (c ∷ ys))) h in
    let two = and_parts (is_float_mark c) (nat_lt 0 (length (power_digits (c ∷ ys)))) all.0 in
    let mark = mark-float c two.0 in
    (rw mark.0 refl, rw (mark.1, two.1) all.1, ne_eqb (suc (length ys)) 0 (λ e. absurd (omega arith)))

power-left : (power : List ℕ) → is_power is_exponent_mark power ≡ true → is_power is_decimal_mark power ≡ false → is_power is_float_mark power ≡ true
power-left [] h d = absurd (true≢false (sym h))
power-left (c ∷ ys) h d =
    let all = and_parts (is_exponent_mark c && nat_lt 0 (length (power_digits (c ∷ ys)))) (all_are is_digit (power_digits (c ∷ ys))) h in
    let two = and_parts (is_exponent_mark c) (nat_lt 0 (length (power_digits (c ∷ ys)))) all.0 in
    elim (cases_Bool (is_decimal_mark c)) [
      | inl e ↦ absurd (true≢false (sym (rw (e, two.1, all.1) refl) ∙ d))
      | inr e ↦ rw (mark-left c two.0 e, two.1) all.1
    ]

pub float-refused : (negative : Bool) (p : Parts) → is_float p ≡ true → decimal_of_parts negative p ≡ Err reason.Float
float-refused negative p h =
    let both = and_parts (is_mantissa p) (is_power is_float_mark p.power) h in
    let power = power-float p.power both.1 in
    rw (both.0, power.0, power.1, power.2) refl

range-other : (b : Bool) (d : Decimal) → (if b then Ok d else Err Range) ≡ Err reason.Float → ⊥
range-other true d h = cc
range-other false d h = cc

-- what is left of a decimal's tests
abbrev refusal : Bool → Result Decimal Reason
refusal e = if e then Err reason.Float else Err BadToken

after-decimal : (e : Bool) → refusal e ≡ Err reason.Float → e ≡ true
after-decimal true h = refl
after-decimal false h = absurd (cc)

refused-left : (m d f e : Bool) (r : Result Decimal Reason) → (r ≡ Err reason.Float → ⊥)
    → (if m && (d || f) then r else (if m && e then Err reason.Float else Err BadToken)) ≡ Err reason.Float → (m ≡ true) × (d ≡ false) × (e ≡ true)
refused-left false d f e r other h = absurd (true≢false (sym (after-decimal false h)))
refused-left true true f e r other h = absurd (other h)
refused-left true false true e r other h = absurd (other h)
refused-left true false false e r other h = (refl, refl, after-decimal e h)

pub refused-float : (negative : Bool) (p : Parts) → decimal_of_parts negative p ≡ Err reason.Float → is_float p ≡ true
refused-float negative p h =
    let left = refused-left (is_mantissa p) (is_power is_decimal_mark p.power) (length p.power == 0 && nat_lt 0 (length p.fraction)) (is_power is_exponent_mark p.power) _ (range-other _ _) h in
    rw (left.0) (power-left p.power left.2 left.1)

-- ---- what is parsed

finite-is : (v : Float) → float_is_finite v ≡ true → Ok v ≡ finite v
unfolding float_is_finite
finite-is nan h = absurd (true≢false (sym h))
finite-is (inf s) h = absurd (true≢false (sym h))
finite-is (fin s m e) h = refl

infinite-is : (v : Float) → float_is_finite v ≡ false → Err Range ≡ finite v
unfolding float_is_finite
infinite-is nan h = refl
infinite-is (inf s) h = refl
infinite-is (fin s m e) h = absurd (true≢false h)

one-float : (o : Option Float) (v x : Float) → o ≡ Some v → o ≡ Some x → v ≡ x
one-float o v x e f = cc

pub parsed-finite : (o : Option Float) (v y : Float) → o ≡ Some v → y ≡ v → float_is_finite v ≡ true → (x : Float) → o ≡ Some x → Ok y ≡ finite x
parsed-finite o v y e same h x is = ap (λ (z : Float). Ok z) same ∙ finite-is v h ∙ ap finite (one-float o v x e is)

pub parsed-infinite : (o : Option Float) (v : Float) → o ≡ Some v → float_is_finite v ≡ false → (x : Float) → o ≡ Some x → Err Range ≡ finite x
parsed-infinite o v e h x is = infinite-is v h ∙ ap finite (one-float o v x e is)

-- ---- what is read

pub shape-read : (run text : List ℕ) (result : Result Float Reason) → None ≡ float_word run → true ≡ is_float (parts_of (without_minus run)) → text ≡ closed run
    → ((x : Float) → parse_float binary64 text ≡ Some x → result ≡ finite x) → result ≡ float_of_text run
unfolding float_of_text
shape-read run text result e h same parsed =
    parsed (nearest-parts (has_minus run) (parts_of (without_minus run))) (ap (parse_float binary64) same ∙ parse-is run (sym h)) ∙ rw (← e, ← h) refl

pub plain-closed : (run : List ℕ) → all_are (λ b. not (b == 95)) run ≡ true → run ≡ closed run
plain-closed [] h = refl
plain-closed (b ∷ run) h =
    let parts = and_parts (not (b == 95)) (all_are (λ b. not (b == 95)) run) h in
    rw parts.0 (ap (λ (ys : List ℕ). b ∷ ys) (plain-closed run parts.1))

-- ---- what a decimal's answer says of the shape

pub shape-alike : (run : List ℕ) → is_float (parts_of (without_minus run)) ≡ true → decimal_of_text run ≡ Err reason.Float
unfolding decimal_of_text
shape-alike run h = float-refused (has_minus run) (parts_of (without_minus run)) h

pub alike-shape : (run : List ℕ) → decimal_of_text run ≡ Err reason.Float → is_float (parts_of (without_minus run)) ≡ true
unfolding decimal_of_text
alike-shape run h = refused-float (has_minus run) (parts_of (without_minus run)) h

-- ---- what is read is a float, or is refused for its shape or its range

nearest-fits : (f : Format) (s : Bool) (n : ℕ) (z : ℤ) → T (fits f (nearest_to_decimal f s n z))
nearest-fits f s n (pos e) = round-fits f s (n * 10 ^ e) 1
nearest-fits f s n (negsuc e) = round-fits f s n (10 ^ suc e)

-- a float, or a reason of these
abbrev pub IsRead : Result Float Reason → Type 0
IsRead r = IfOk r IsFloat × IfErr r (λ e. (e ≡ BadToken) ⊎ (e ≡ Range))

finite-read : (x : Float) → IsFloat x → IsRead (finite x)
finite-read nan h = (tt, inr refl)
finite-read (inf s) h = (tt, inr refl)
finite-read (fin s m e) h = (h, tt)

shape-finite : (b s : Bool) (n : ℕ) (z : ℤ) → IsRead (if b then finite (nearest_to_decimal binary64 s n z) else Err BadToken)
shape-finite true s n z = finite-read (nearest_to_decimal binary64 s n z) (nearest-fits binary64 s n z)
shape-finite false s n z = (tt, inl refl)

parts-are-read : (s : Bool) (p : Parts) → IsRead (float_of_parts s p)
parts-are-read s p =
    shape-finite (is_float p) s (digits_value 10 (filter is_digit p.whole ++ fraction_digits p.fraction)) (power_value p.power -ℤ pos (length (fraction_digits p.fraction)))

word-fits : (a b c : Bool) → IfSome (if a then Some nan else (if b then Some (inf false) else (if c then Some (inf true) else None))) IsFloat
unfolding fits
word-fits true b c = tt
word-fits false true c = tt
word-fits false false true = tt
word-fits false false false = tt

else-read : (o : Option Float) (r : Result Float Reason) → IfSome o IsFloat → IsRead r → IsRead (or_else o r)
else-read (Some x) r h k = (h, tt)
else-read None r h k = k

pub text-is-read : (run : List ℕ) → IsRead (float_of_text run)
unfolding float_of_text
text-is-read run =
    else-read (float_word run) (float_of_parts (has_minus run) (parts_of (without_minus run)))
    (word-fits (bytes_eq run (codes "nan")) (bytes_eq run (codes "+inf")) (bytes_eq run (codes "-inf")))
    (parts-are-read (has_minus run) (parts_of (without_minus run)))
