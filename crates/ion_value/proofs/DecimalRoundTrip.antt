-- Reading the text of a decimal gives the decimal.
use Rattle.std.proofs.Common.{◌≡◌, ℕ, suc, ◌+◌, ◌*◌, ◌/◌, ◌%◌, ◌^◌, ◌<◌, ◌≤◌, ℤ, pos, negsuc, ◌-ℤ◌, inl, inr, Bool, true, false, ◌==◌, nat_lt, List, [], ◌∷◌, ◌++◌, length, map, filter, decimal, Ok, refl, sym, ap, ◌∙◌, arith}
use Rattle.std.proofs.lemmas.Bool.{cases_Bool, eqb-true, lt-ltb}
use Rattle.std.proofs.lemmas.Int.{ints}
use Rattle.std.proofs.lemmas.List.{append-nil}
use Rattle.std.proofs.Math.Nat.{pow-zero, mod-lt, div-add-mod, div-le_self, mul_comm}
use Rattle.ion_value.specs.declared.decimal.Decimal.{Decimal}
use Rattle.ion_value.specs.Number.{number}
use Rattle.ion_value.specs.Digits.{is_digit, digit_value, digits_value, all_are, has_minus, cut_at, fixed_digits}
use Rattle.ion_value.specs.Decimal.{IsExponent, IsDecimal, decimal_in_range, integer_text, pointed_text, power_text, magnitude_text, most_places, decimal_text, decimal_of_text, is_exponent_mark, is_fraction, parts_of, decimal_of_parts}
use Rattle.ion_value.proofs.FixedDigits.{length-fixed_digits, pow-pos}
use Rattle.ion_value.proofs.PointedText.{fixed_digits-rest}
use Rattle.ion_value.proofs.TextDecimals.{apart-mark, cut-prefix, cut-nil, make_parts, parts-prefix, parts-point, value-both, spelled, all-prefix, all-filter, all-some, all-value, Spells, spells, sign-plus, sign-read, first-append, power-written, decimal-text, decimal-written, decimal-in_range}
use Rattle.ion_value.proofs.TextRoundTrip.{fixed_digits-are, number-fixed_digits}

-- digits, a point, and digits or none
parts-pointed : (ds fs : List ℕ) → all_are is_digit ds ≡ true → all_are is_digit fs ≡ true → parts_of (ds ++ (46 ∷ fs)) ≡ make_parts ds (46 ∷ fs) []
parts-pointed ds fs d f =
    let cut : cut_at is_exponent_mark fs ≡ (fs, []) =
    ap (λ (xs : List ℕ). cut_at is_exponent_mark xs) (sym (append-nil fs) ∙ ap (λ (xs : List ℕ). xs ++ []) (sym (all-prefix fs f)))
    ∙ cut-prefix is_exponent_mark fs [] apart-mark ∙ rw (all-prefix fs f, cut-nil, append-nil) refl in
    let parts : parts_of (ds ++ (46 ∷ fs)) ≡ make_parts (ds ++ (parts_of (46 ∷ fs)).whole) (parts_of (46 ∷ fs)).fraction (parts_of (46 ∷ fs)).power
    = rw (all-prefix ds d) at (parts-prefix ds (46 ∷ fs)) in
    parts ∙ rw (parts-point fs, cut, append-nil) refl

fraction-written : (fs : List ℕ) → all_are is_digit fs ≡ true → is_fraction (46 ∷ fs) ≡ true
fraction-written [] f = refl
fraction-written (d ∷ fs) f = all-some d fs f

-- the number of the digits on both sides of a point
value-pointed : (n m r k : ℕ) (ds fs : List ℕ) → Spells m ds → all_are is_digit fs ≡ true → length fs ≡ k → spelled fs ≡ r → n ≡ m * 10 ^ k + r
    → digits_value 10 (filter is_digit ds ++ filter is_digit fs) ≡ n
value-pointed n m r k ds fs w f len value whole =
    let places : length (filter is_digit fs) ≡ k = ap (λ (xs : List ℕ). length xs) (all-filter fs f) ∙ len in
    let before : spelled ds ≡ m = sym (all-value ds w.digits) ∙ w.value in
    value-both ds fs ∙ rw (places, before, value, whole) (omega arith)

pointed-read : (negative : Bool) (n m r k : ℕ) (e : ℤ) (ds fs : List ℕ) → Spells m ds → all_are is_digit fs ≡ true → length fs ≡ k → spelled fs ≡ r → n ≡ m * 10 ^ k + r
    → e ≡ pos 0 -ℤ pos k → decimal_of_parts negative (parts_of (ds ++ (46 ∷ fs))) ≡ decimal_in_range negative n e
pointed-read negative n m r k e ds fs w f len value whole exponent =
    let some : nat_lt 0 (suc (length fs)) ≡ true = lt-ltb 0 (suc (length fs)) (omega arith) in
    rw (parts-pointed ds fs w.digits f, some, w.whole, fraction-written fs f, value-pointed n m r k ds fs w f len value whole, all-filter fs f, len, exponent) refl

-- the magnitude of a decimal, whose text begins with a digit
record Reads (negative : Bool) (n : ℕ) (e : ℤ) (text : List ℕ) : Type 0 where
  plus : has_minus text ≡ false
  value : decimal_of_parts negative (parts_of text) ≡ decimal_in_range negative n e

plus-written : (m : ℕ) (ds rest : List ℕ) → Spells m ds → has_minus (ds ++ rest) ≡ false
plus-written m ds rest w = first-append (λ b. b == 45) ds rest w.some ∙ sign-plus ds w.digits

whole-read : (negative : Bool) (n : ℕ) → n < 10 ^ 64 → Reads negative n (pos 0) (decimal n ++ (46 ∷ []))
whole-read negative n small =
    let w = spells n small in
    record {
      plus = plus-written n (decimal n) (46 ∷ []) w;
      value = pointed-read negative n n 0 0 (pos 0) (decimal n) [] w refl refl refl (rw pow-zero (omega arith)) refl;
    }

parts-of_div : (n p : ℕ) → n ≡ n / p * p + n % p
parts-of_div n p = omega (arith, div-add-mod n p, mul_comm p (n / p))

point-read : (negative : Bool) (n e : ℕ) → n < 10 ^ 64 → Reads negative n (negsuc e) (pointed_text n (1 + e))
point-read negative n e small =
    let k : ℕ = 1 + e in
    let less : n / 10 ^ (1 + e) ≤ n = div-le_self n (10 ^ (1 + e)) in
    let w = spells (n / 10 ^ (1 + e)) (omega arith) in
    let fs : List ℕ = fixed_digits (1 + e) n in
    let rest : spelled fs ≡ n % 10 ^ (1 + e) =
    ap (λ (xs : List ℕ). number 10 (map digit_value xs)) (all-filter (fixed_digits (1 + e) n) (fixed_digits-are (1 + e) n) ∙ sym (fixed_digits-rest (1 + e) n))
    ∙ number-fixed_digits (1 + e) (n % 10 ^ (1 + e)) (mod-lt n (pow-pos (1 + e))) in
    record {
      plus = plus-written (n / 10 ^ (1 + e)) (decimal (n / 10 ^ (1 + e))) (46 ∷ fixed_digits (1 + e) n) w;
      value =
          pointed-read negative n (n / 10 ^ (1 + e)) (n % 10 ^ (1 + e)) (1 + e) (negsuc e) (decimal (n / 10 ^ (1 + e))) (fixed_digits (1 + e) n) w
          (fixed_digits-are (1 + e) n) (length-fixed_digits (1 + e) n) rest (parts-of_div n (10 ^ (1 + e))) (omega (arith, ints));
    }

power-read : (negative : Bool) (n : ℕ) (e : ℤ) → n < 10 ^ 64 → IsExponent e → Reads negative n e (power_text n e)
power-read negative n e small within =
    let w = spells n small in
    record {
      plus = plus-written n (decimal n) (100 ∷ integer_text e) w;
      value = decimal-written negative n e (decimal n) (integer_text e) w (power-written e within);
    }

magnitude-read : (negative : Bool) (n : ℕ) (e : ℤ) → n < 10 ^ 64 → IsExponent e → Reads negative n e (magnitude_text n e)
magnitude-read negative n (pos e) small within = elim (cases_Bool (e == 0)) [
  | inl zero ↦ rw (eqb-true e 0 zero) (whole-read negative n small)
  | inr some ↦ rw some (power-read negative n (pos e) small within)
]
magnitude-read negative n (negsuc e) small within = elim (cases_Bool (nat_lt e most_places)) [
  | inl few ↦ rw few (point-read negative n e small)
  | inr many ↦ rw many (power-read negative n (negsuc e) small within)
]

pub decimal_text-is_read : (d : Decimal) → IsDecimal d → decimal_of_text (decimal_text d) ≡ Ok d
decimal_text-is_read d valid =
    let text : List ℕ = magnitude_text d.coefficient d.exponent in
    let read = magnitude-read d.negative d.coefficient d.exponent (omega (arith, valid.coefficient)) valid.exponent in
    let sign = sign-read d.negative text read.plus in
    sym (decimal-text (decimal_text d) text d.negative (sym sign.0) (sym sign.1)) ∙ read.value ∙ decimal-in_range d valid
