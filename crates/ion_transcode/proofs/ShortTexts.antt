-- The canonical text of a null, a bool, a number or a timestamp has 64 bytes at most.
use Rattle.std.proofs.Common.{◌≡◌, ℕ, zero, suc, ◌+◌, ◌-◌, ◌*◌, ◌/◌, ◌^◌, ◌<◌, ◌≤◌, ℤ, pos, negsuc, Bool, true, false, ◌==◌, nat_lt, if◌then◌else◌, inl, inr, List, [], ◌∷◌, ◌++◌, length, decimal, T, Option, None, Some, sym, ap, ◌∙◌, arith, length-append, lit<}
use Rattle.std.proofs.lemmas.Bool.{cases_Bool, ltb-true}
use Rattle.std.proofs.lemmas.Fmt.{length-decimal-le_wide}
use Rattle.std.proofs.lemmas.Int.{ints}
use Rattle.std.proofs.lemmas.Nat.{pow-add}
use Rattle.std.proofs.Math.Nat.{div-lt_iff_lt-mul, pow-le-pow_right}
use lib.Ieee.{Float, nan, inf, fin, binary64, fits, to_bits}
use lib.Ieee.Bits.{of_bits-to_bits, to_bits-lt}
use Rattle.ion_value.specs.declared.decimal.Decimal.{Decimal}
use Rattle.ion_value.specs.declared.int.Int.{Int}
use Rattle.ion_value.specs.declared.ion_type.IonType.{IonType}
use Rattle.ion_value.specs.declared.ion_type.IonType.TheVariants as type
use Rattle.ion_value.specs.declared.timestamp.Precision.{Precision}
use Rattle.ion_value.specs.declared.timestamp.Precision.TheVariants as precision
use Rattle.ion_value.specs.declared.timestamp.Timestamp.{Timestamp}
use Rattle.ion_value.specs.Decimal.{IsExponent, IsDecimal, integer_text, pointed_text, power_text, magnitude_text, decimal_text}
use Rattle.ion_value.specs.Digits.{fixed_digits}
use Rattle.ion_value.specs.Float.{IsFloat}
use Rattle.ion_value.specs.FloatText as float
use Rattle.ion_value.specs.FloatText.{pointed, exponent_of, digits_text}
use Rattle.ion_value.specs.Int.{IsInt, int_text}
use Rattle.ion_value.specs.Name.{null_text, bool_text}
use Rattle.ion_value.specs.Shortest.{shortest}
use Rattle.ion_value.specs.Timestamp.{KeepsPrecision, IsTimestamp, day_text, minute_text, second_text, minutes_text, offset_text, text_to, timestamp_text}
use Rattle.ion_float.proofs.FewDigits.{few-digits}
use Rattle.ion_float.proofs.TextOfBits.{above-zero, digits-short, shortest-row}
use Rattle.ion_value.proofs.FixedDigits.{length-fixed_digits, pow-pos}

pub null-short : (t : IonType) → length (null_text t) ≤ 64
null-short type.Null = omega arith
null-short type.Bool = omega arith
null-short type.Int = omega arith
null-short type.Float = omega arith
null-short type.Decimal = omega arith
null-short type.Timestamp = omega arith
null-short type.Symbol = omega arith
null-short type.String = omega arith
null-short type.Clob = omega arith
null-short type.Blob = omega arith
null-short type.List = omega arith
null-short type.Sexp = omega arith
null-short type.Struct = omega arith

pub bool-short : (truth : Bool) → length (bool_text truth) ≤ 64
bool-short true = omega arith
bool-short false = omega arith

-- ---- numbers

signed-short : (negative : Bool) (text : List ℕ) (most : ℕ) → length text ≤ most
    → length ((if negative then 45 ∷ [] else []) ++ text) ≤ suc most
signed-short true text most short = omega (arith, short)
signed-short false text most short = omega (arith, short)

-- 128 bits are 39 digits at most
digits-few : (n : ℕ) → n < 2 ^ 128 → length (decimal n) ≤ 39
digits-few n small =
    let powers : 2 ^ 128 < 10 ^ 39 = lit< tt in
    let wide : 2 ^ 128 < 10 ^ 64 = lit< tt in
    length-decimal-le_wide 39 n (omega arith) (omega (arith, small, powers)) (omega (arith, small, wide))

pub int-short : (i : Int) → IsInt i → length (int_text i) ≤ 64
int-short i is =
    let few = signed-short i.negative (decimal i.magnitude) 39 (digits-few i.magnitude is.fits) in
    omega (arith, few)

exponent-few : (n : ℕ) → n < 2 ^ 31 → length (decimal n) ≤ 10
exponent-few n small =
    let wide : 2 ^ 31 < 10 ^ 64 = lit< tt in
    length-decimal-le_wide 10 n (omega arith) (omega (arith, small)) (omega (arith, small, wide))

integer-short : (e : ℤ) → IsExponent e → length (integer_text e) ≤ 11
integer-short (pos n) is = let few = exponent-few n (omega (arith, ints, is)) in omega (arith, few)
integer-short (negsuc n) is = let few = exponent-few (1 + n) (omega (arith, ints, is)) in omega (arith, few)

power-short : (n : ℕ) (e : ℤ) → n < 2 ^ 128 → IsExponent e → length (power_text n e) ≤ 51
power-short n e small is =
    let long : length (decimal n ++ (100 ∷ integer_text e)) ≡ length (decimal n) + suc (length (integer_text e)) =
    length-append (decimal n) (100 ∷ integer_text e) in
    omega (arith, long, digits-few n small, integer-short e is)

pointed-short : (n k : ℕ) → n < 2 ^ 128 → k ≤ 38 → length (pointed_text n k) ≤ 40
pointed-short n k small few =
    let powers : 2 ^ 128 < 10 ^ 39 = lit< tt in
    let all : 39 - k + k ≡ 39 = omega (arith, few) in
    let parts : 10 ^ (39 - k) * 10 ^ k ≡ 10 ^ 39 = sym (pow-add 10 (39 - k) k) ∙ ap (λ m. 10 ^ m) all in
    let fits : n < 10 ^ (39 - k) * 10 ^ k = omega (arith, small, powers, parts) in
    let less : n / 10 ^ k < 10 ^ (39 - k) = (div-lt_iff_lt-mul (pow-pos k)).1 fits in
    let fewer : 39 - k ≤ 39 = omega arith in
    let most : 10 ^ (39 - k) ≤ 10 ^ 39 = pow-le-pow_right {n = 10} (omega arith) fewer in
    let top : 10 ^ 39 < 10 ^ 64 = lit< tt in
    let digits = length-decimal-le_wide (39 - k) (n / 10 ^ k) (omega (arith, few)) less (omega (arith, less, most, top)) in
    let long = length-append (decimal (n / 10 ^ k)) (46 ∷ fixed_digits k n) in
    omega (arith, long, digits, length-fixed_digits k n)

whole-short : (n : ℕ) → n < 2 ^ 128 → length (decimal n ++ (46 ∷ [])) ≤ 51
whole-short n small =
    let long : length (decimal n ++ (46 ∷ [])) ≡ length (decimal n) + 1 = length-append (decimal n) (46 ∷ []) in
    omega (arith, long, digits-few n small)

magnitude-short : (n : ℕ) (e : ℤ) → n < 2 ^ 128 → IsExponent e → length (magnitude_text n e) ≤ 51
magnitude-short n (pos e) small is = elim (cases_Bool (e == 0)) [
  | inl none ↦ rw none (whole-short n small)
  | inr some ↦ rw some (power-short n (pos e) small is)
]
magnitude-short n (negsuc e) small is = elim (cases_Bool (nat_lt e 38)) [
  | inl few ↦
      let less : e < 38 = ltb-true e 38 few in
      let short = pointed-short n (1 + e) small (omega (arith, less)) in
      rw few (omega (arith, short))
  | inr many ↦ rw many (power-short n (negsuc e) small is)
]

pub decimal-short : (d : Decimal) → IsDecimal d → length (decimal_text d) ≤ 64
decimal-short d is =
    let few = magnitude-short d.coefficient d.exponent is.coefficient is.exponent in
    let signed = signed-short d.negative (magnitude_text d.coefficient d.exponent) 51 few in
    omega (arith, signed)

-- ---- floats

pointed-more : (ds : List ℕ) → length (pointed ds) ≤ suc (length ds)
pointed-more [] = omega arith
pointed-more (d ∷ []) = omega arith
pointed-more (d ∷ f ∷ ds) = omega arith

exponent-within : (count row : ℕ) → count ≤ 17 → row ≤ 651 → IsExponent (exponent_of count row)
exponent-within count row few within = (omega (arith, ints), omega (arith, ints))

number-short : (n row : ℕ) → n < 10 ^ 17 → row ≤ 651 → length (digits_text (n, row)) ≤ 30
number-short n row small within =
    let few = digits-short n small in
    let after = integer-short (exponent_of (length (decimal n)) row) (exponent-within (length (decimal n)) row few within) in
    let all = length-append (pointed (decimal n)) (101 ∷ integer_text (exponent_of (length (decimal n)) row)) in
    omega (arith, all, few, pointed-more (decimal n), after)

unsigned-fits : (s : Bool) (m : ℕ) (e : ℤ) → T (fits binary64 (fin s (suc m) e)) → T (fits binary64 (fin false (suc m) e))
unfolding fits
unsigned-fits s m e h = h

finite-short : (s : Bool) (m : ℕ) (e : ℤ) → T (fits binary64 (fin s m e)) → length (float.magnitude_text m e) ≤ 30
finite-short s zero e h = omega arith
finite-short s (suc m) e h =
    let x = fin false (suc m) e in
    let fit = unsigned-fits s m e h in
    let b = to_bits binary64 x in
    let above = above-zero b m e (to_bits-lt binary64 x fit) (of_bits-to_bits binary64 x fit) in
    number-short (shortest b).0 (shortest b).1 (few-digits b above) (shortest-row b)

pub float-short : (x : Float) → IsFloat x → length (float.float_text x) ≤ 64
float-short nan h = omega arith
float-short (inf true) h = omega arith
float-short (inf false) h = omega arith
float-short (fin true m e) h = omega (arith, finite-short true m e h)
float-short (fin false m e) h = omega (arith, finite-short false m e h)

-- ---- timestamps

day-long : (t : Timestamp) → length (day_text t) ≡ 10
day-long t = simp (length-append, length-fixed_digits) (omega arith)

minute-long : (t : Timestamp) → length (minute_text t) ≡ 16
minute-long t = simp (length-append, length-fixed_digits) (omega arith)

second-long : (t : Timestamp) → length (second_text t) ≡ 19
second-long t = simp (length-append, length-fixed_digits) (omega arith)

minutes-long : (n : ℕ) → length (minutes_text n) ≡ 5
minutes-long n = simp (length-append, length-fixed_digits) (omega arith)

offset-short : (offset : Option ℤ) → length (offset_text offset) ≤ 6
offset-short None = omega arith
offset-short (Some (pos zero)) = omega arith
offset-short (Some (pos (suc n))) = omega (arith, minutes-long (suc n))
offset-short (Some (negsuc n)) = omega (arith, minutes-long (suc n))

to-short : (p : Precision) (t : Timestamp) → KeepsPrecision p t → length (text_to p t) ≤ 64
to-short precision.Year t keeps = simp (length-append, length-fixed_digits) (omega arith)
to-short precision.Month t keeps = simp (length-append, length-fixed_digits) (omega arith)
to-short precision.Day t keeps = omega (arith, day-long t)
to-short precision.Minute t keeps =
    omega (arith, length-append (minute_text t) (offset_text t.offset), minute-long t, offset-short t.offset)
to-short precision.Second t keeps =
    omega (arith, length-append (second_text t) (offset_text t.offset), second-long t, offset-short t.offset)
to-short (precision.Fraction n) t keeps =
    let fraction : List ℕ = 46 ∷ fixed_digits n t.fraction in
    let all = length-append (second_text t) (fraction ++ offset_text t.offset) in
    let after = length-append fraction (offset_text t.offset) in
    omega (arith, all, after, length-fixed_digits n t.fraction, second-long t, offset-short t.offset, keeps)

pub timestamp-short : (t : Timestamp) → IsTimestamp t → length (timestamp_text t) ≤ 64
unfolding timestamp_text
timestamp-short t is = to-short t.precision t is.precision
