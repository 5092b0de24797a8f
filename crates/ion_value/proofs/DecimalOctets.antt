-- Laws of the octets of decimals: of the coefficient, of the exponent's range, and of the whole body.
use Rattle.std.proofs.Common.{◌≡◌, ℕ, zero, suc, ◌+◌, ◌*◌, ◌^◌, ◌<◌, ◌≤◌, inl, inr, Bool, true, false, not, ◌&&◌, ltb, eqb, List, [], ◌∷◌, ◌++◌, length, take, drop, Option, Some, None, Result, Ok, Err, ℤ, pos, negsuc, refl, sym, ◌∙◌, subst, arith, length-append}
use Rattle.std.specs.List.{All}
use Rattle.std.specs.Option.{IfSome}
use Rattle.std.proofs.lemmas.Bool.{false≢true, not-true, cases_Bool, lt-ltb, ltb-true, eqb-true, and_parts}
use Rattle.std.proofs.lemmas.Int.{ints}
use Rattle.ion_meter.specs.declared.fault.Reason.{Reason}
use Rattle.ion_meter.specs.declared.fault.Reason.TheVariants.{BadVar, Range}
use Rattle.ion_value.specs.declared.decimal.Decimal.{Decimal}
use Rattle.ion_value.specs.declared.var.Signed.{Signed}
use Rattle.ion_value.specs.Number.{VarInt, var_int_negative, var_int_magnitude, int_negative, int_magnitude, signed, var_cut, digits_in, with_sign, var_int_octets, coefficient_octets}
use Rattle.ion_value.specs.Decimal.{IsExponent, is_exponent, IsDecimal, decimal_in_range, zero_decimal, DecimalBody, nothing, parts, decimal_of_cut, decimal_of_bytes, exponent_octets, is_nothing, decimal_body}
use Rattle.ion_value.proofs.Octets.{Below, Below-append, All-Below, digits_in-Digits, Signing, with_sign-Signing, Signing-fewest}
use Rattle.ion_value.proofs.VarOctets.{var_int_octets-VarInt, var_int_octets-fewest, var_int_octets-short, var_int_octets-Below}
use Rattle.ion_value.proofs.Cut.{Cut, IfSome-Cut, var_cut-IsVar, var_cut-VarInt, var_cut-no_VarInt}

-- ---- the coefficient

-- what the octets of an Int spell
pub record Field (negative : Bool) (n : ℕ) (c : List ℕ) : Type 0 where
  pub sign : int_negative c ≡ negative
  pub magnitude : int_magnitude c ≡ n
  pub octets : Below 256 c

-- digits in base 256 with a sign make an Int
Signing-Field : (negative : Bool) (n : ℕ) (s : List ℕ) → Signing 256 128 negative n s → Field negative n s
Signing-Field negative n s h = rw h.is (record { sign = h.sign; magnitude = h.magnitude; octets = (h.below, h.rest_below) })

coefficient-Signing : (negative : Bool) (n : ℕ) → Signing 256 128 negative n (with_sign 128 negative (digits_in 256 n))
coefficient-Signing negative n = with_sign-Signing 256 128 n negative (digits_in 256 n) (omega arith) refl (digits_in-Digits 256 n (omega arith))

-- the shortest octets of a coefficient spell its sign and magnitude
pub coefficient-Field : (negative : Bool) (n : ℕ) → Field negative n (coefficient_octets negative n)
coefficient-Field false zero = record { sign = refl; magnitude = refl; octets = tt }
coefficient-Field false (suc n) = Signing-Field false (suc n) (with_sign 128 false (digits_in 256 (suc n))) (coefficient-Signing false (suc n))
coefficient-Field true n = Signing-Field true n (with_sign 128 true (digits_in 256 n)) (coefficient-Signing true n)

-- no other octets that do are fewer
coefficient-fewer : (negative : Bool) (n : ℕ) (f : ℕ) (c : List ℕ) → Below 256 c → int_magnitude (f ∷ c) ≡ n → length (coefficient_octets negative n) ≤ suc (length c)
coefficient-fewer false zero f c below e = omega arith
coefficient-fewer false (suc n) f c below e =
    Signing-fewest 256 128 (suc n) f false (with_sign 128 false (digits_in 256 (suc n))) c (omega arith) refl (coefficient-Signing false (suc n)) below e
coefficient-fewer true n f c below e =
    Signing-fewest 256 128 n f true (with_sign 128 true (digits_in 256 n)) c (omega arith) refl (coefficient-Signing true n) below e

pub coefficient-fewest : (c : List ℕ) → Below 256 c → length (coefficient_octets (int_negative c) (int_magnitude c)) ≤ length c
coefficient-fewest [] below = omega arith
coefficient-fewest (f ∷ c) below = coefficient-fewer (int_negative (f ∷ c)) (int_magnitude (f ∷ c)) f c below.1 refl

-- ---- the range

-- the test of an exponent is true within its range alone
pub is_exponent-true : (e : ℤ) → IsExponent e → is_exponent e ≡ true
is_exponent-true e h = grind (arith, ints)

pub is_exponent-IsExponent : (e : ℤ) → is_exponent e ≡ true → IsExponent e
is_exponent-IsExponent e h = grind (arith, ints)

abbrev make : Bool → ℕ → ℤ → Decimal
make negative n e = record { negative = negative; coefficient = n; exponent = e }

-- what is within the range
pub decimal_in_range-Ok : (negative : Bool) (n : ℕ) (e : ℤ) → n < 2 ^ 128 → IsExponent e → decimal_in_range negative n e ≡ Ok (make negative n e)
decimal_in_range-Ok negative n e small range =
    let low : ltb n (2 ^ 128) ≡ true = lt-ltb n (2 ^ 128) small in
    rw (low, is_exponent-true e range) refl

-- one outcome
Ok-same : (r : Result Decimal Reason) (d x : Decimal) → r ≡ Ok d → r ≡ Ok x → x ≡ d
Ok-same r d x h g = cc

Ok-not_Err : (r : Result Decimal Reason) (d : Decimal) (e : Reason) → r ≡ Ok d → r ≡ Err e → ⊥
Ok-not_Err r d e h g = cc

-- what a decimal of the range was made of
pub record Made (negative : Bool) (n : ℕ) (e : ℤ) (d : Decimal) : Type 0 where
  pub is : make negative n e ≡ d
  pub small : n < 2 ^ 128
  pub range : IsExponent e

pub decimal_in_range-Made : (negative : Bool) (n : ℕ) (e : ℤ) (d : Decimal) → decimal_in_range negative n e ≡ Ok d → Made negative n e d
decimal_in_range-Made negative n e d h =
    elim (cases_Bool (ltb n (2 ^ 128) && is_exponent e)) [
      | inl within ↦
          let tests = and_parts (ltb n (2 ^ 128)) (is_exponent e) within in
          let made : decimal_in_range negative n e ≡ Ok (make negative n e) = rw within refl in
          record { is = Ok-same (decimal_in_range negative n e) d (make negative n e) h made; small = ltb-true n (2 ^ 128) tests.0; range = is_exponent-IsExponent e tests.1 }
      | inr past ↦
          let refused : decimal_in_range negative n e ≡ Err Range = rw past refl in
          absurd (Ok-not_Err (decimal_in_range negative n e) d Range h refused)
    ]

pub Made-IsDecimal : (negative : Bool) (n : ℕ) (e : ℤ) (d : Decimal) → Made negative n e d → IsDecimal d
Made-IsDecimal negative n e d h = let P : Decimal → Type 0 = λ x. IsDecimal x in subst P h.is (record { coefficient = h.small; exponent = h.range })

-- ---- bodies

-- a decimal within the range is read from each body that spells it
pub decimal_of_bytes-Ok : (d : Decimal) (b : List ℕ) → DecimalBody d b → IsDecimal d → decimal_of_bytes b ≡ Ok d
unfolding decimal_of_bytes
decimal_of_bytes-Ok d b nothing range = refl
decimal_of_bytes-Ok d b (parts z [] c h) range = absurd h.ends
decimal_of_bytes-Ok d b (parts z (x ∷ e) c h) range =
    rw (var_cut-IsVar 9 (x ∷ e) c h.ends h.short, ← h.sign, ← h.magnitude)
    (decimal_in_range-Ok (int_negative c) (int_magnitude c) (signed z.negative z.magnitude) range.coefficient range.exponent)

-- a body that is not empty is read where it is cut
decimal_of_bytes-cut : (b : List ℕ) → 0 < length b → decimal_of_bytes b ≡ decimal_of_cut (var_cut 9 b)
unfolding decimal_of_bytes
decimal_of_bytes-cut [] some = absurd (omega arith)
decimal_of_bytes-cut (x ∷ b) some = refl

-- what its parts give, where a VarInt ends, where none does, and where there are no octets
pub decimal_of_bytes-parts : (z : Signed) (k : ℕ) (b : List ℕ) → 0 < length b → VarInt z (take k b)
    → decimal_of_bytes b ≡ decimal_in_range (int_negative (drop k b)) (int_magnitude (drop k b)) (signed z.negative z.magnitude)
decimal_of_bytes-parts z k b some h = decimal_of_bytes-cut b some ∙ rw (var_cut-VarInt z k b h, h.sign, h.magnitude) refl

pub decimal_of_bytes-unended : (b : List ℕ) → 0 < length b → ((z : Signed) (k : ℕ) → VarInt z (take k b) → ⊥) → decimal_of_bytes b ≡ Err BadVar
decimal_of_bytes-unended b some none = decimal_of_bytes-cut b some ∙ rw (var_cut-no_VarInt b none) refl

pub decimal_of_bytes-none : (b : List ℕ) → length b ≡ 0 → decimal_of_bytes b ≡ Ok zero_decimal
unfolding decimal_of_bytes
decimal_of_bytes-none [] none = refl
decimal_of_bytes-none (x ∷ b) none = absurd (omega arith)

-- what a cut body spells
pub record Read (d : Decimal) (b : List ℕ) : Type 0 where
  pub body : DecimalBody d b
  pub range : IsDecimal d

cut-Read : (d : Decimal) (b : List ℕ) (o : Option (List ℕ × List ℕ)) → IfSome o (Cut 9 b) → decimal_of_cut o ≡ Ok d → Read d b
cut-Read d b None h ok = absurd (Ok-not_Err (Err BadVar) d BadVar ok refl)
cut-Read d b (Some (e, c)) h ok =
    let z : Signed = record { negative = var_int_negative e; magnitude = var_int_magnitude e } in
    let whole : VarInt z e = record { short = h.short; ends = h.ends; sign = refl; magnitude = refl } in
    let made = decimal_in_range-Made (int_negative c) (int_magnitude c) (signed z.negative z.magnitude) d ok in
    let P : Decimal → Type 0 = λ x. DecimalBody x (e ++ c) in
    let Q : List ℕ → Type 0 = λ l. DecimalBody d l in
    record {
      body = subst Q (sym h.whole) (subst P made.is (parts z e c whole));
      range = Made-IsDecimal (int_negative c) (int_magnitude c) (signed z.negative z.magnitude) d made;
    }

-- and what is read from a body is within the range and spelled by the body
pub Read-decimal_of_bytes : (d : Decimal) (b : List ℕ) → decimal_of_bytes b ≡ Ok d → Read d b
unfolding decimal_of_bytes
Read-decimal_of_bytes d [] ok =
    let same : zero_decimal ≡ d = Ok-same (Ok zero_decimal) d zero_decimal ok refl in
    let P : Decimal → Type 0 = λ x. Read x [] in
    subst P same (record { body = nothing; range = record { coefficient = omega arith; exponent = (omega (arith, ints), omega (arith, ints)) } })
Read-decimal_of_bytes d (x ∷ b) ok = cut-Read d (x ∷ b) (var_cut 9 (x ∷ b)) (IfSome-Cut 9 (x ∷ b)) ok

-- ---- the shortest body

-- the sign and the magnitude of an exponent, as it is written
pub record Exponent (e : ℤ) (z : Signed) : Type 0 where
  pub spelled : exponent_octets e ≡ var_int_octets z.negative z.magnitude
  pub value : signed z.negative z.magnitude ≡ e
  pub small : z.magnitude < 2 ^ 31

-- each exponent has them
pub exponent-Exponent : (e : ℤ) → IsExponent e → (z : Signed) × Exponent e z
exponent-Exponent (pos n) h = (record { negative = false; magnitude = n }, record { spelled = refl; value = refl; small = omega (arith, ints) })
exponent-Exponent (negsuc n) h = (
  record { negative = true; magnitude = 1 + n },
  record { spelled = refl; value = (let e : 1 + n ≡ suc n = omega arith in rw e refl); small = omega (arith, ints) },
)

-- no VarInt of an exponent has fewer octets, whatever the sign of a zero
exponent-fewer : (negative : Bool) (n k : ℕ) → ((s : Bool) → length (var_int_octets s n) ≤ k) → length (exponent_octets (signed negative n)) ≤ k
exponent-fewer true zero k h = h false
exponent-fewer true (suc n) k h = let e : 1 + n ≡ suc n = omega arith in rw e (h true)
exponent-fewer false n k h = h false

exponent-fewest : (z : Signed) (c : List ℕ) → VarInt z c → length (exponent_octets (signed z.negative z.magnitude)) ≤ length c
exponent-fewest z c h = exponent-fewer z.negative z.magnitude (length c) (λ s. var_int_octets-fewest s z c h)

-- 0d0 alone is written as no octets
is_nothing-zero : (negative : Bool) (n : ℕ) (e : ℤ) → is_nothing (make negative n e) ≡ true → zero_decimal ≡ make negative n e
is_nothing-zero negative n (negsuc m) h = absurd (false≢true ((and_parts (not negative && eqb n 0) false h).1))
is_nothing-zero negative n (pos m) h =
    let parts = and_parts (not negative && eqb n 0) (eqb m 0) h in
    let first = and_parts (not negative) (eqb n 0) parts.0 in
    let plus : negative ≡ false = not-true negative first.0 in
    let none : n ≡ 0 = eqb-true n 0 first.1 in
    let one : m ≡ 0 = eqb-true m 0 parts.1 in
    cc

-- what is written for it, and for another
pub decimal_body-none : (d : Decimal) → is_nothing d ≡ true → decimal_body d ≡ []
unfolding decimal_body
decimal_body-none d none = rw none refl

pub decimal_body-parts : (d : Decimal) → is_nothing d ≡ false → decimal_body d ≡ exponent_octets d.exponent ++ coefficient_octets d.negative d.coefficient
unfolding decimal_body
decimal_body-parts d some = rw some refl

make-same : (s t : Bool) (m n : ℕ) (d e : ℤ) → s ≡ t → m ≡ n → d ≡ e → make s m d ≡ make t n e
make-same s t m n d e sign coefficient exponent = cc

-- the shortest body spells the decimal
pub decimal_body-DecimalBody : (d : Decimal) → IsDecimal d → DecimalBody d (decimal_body d)
unfolding decimal_body
decimal_body-DecimalBody d range =
    elim (cases_Bool (is_nothing d)) [
      | inl none ↦ let P : Decimal → Type 0 = λ x. DecimalBody x [] in rw none (subst P (is_nothing-zero d.negative d.coefficient d.exponent none) nothing)
      | inr some ↦
          let e = exponent-Exponent d.exponent range.exponent in
          let z : Signed = e.0 in
          let small : z.magnitude < 2 ^ 62 = omega (arith, e.1.small) in
          let exponent : VarInt z (exponent_octets d.exponent) = rw e.1.spelled (var_int_octets-VarInt z small) in
          let c : List ℕ = coefficient_octets d.negative d.coefficient in
          let field = coefficient-Field d.negative d.coefficient in
          let same : make (int_negative c) (int_magnitude c) (signed z.negative z.magnitude) ≡ d =
          make-same (int_negative c) d.negative (int_magnitude c) d.coefficient (signed z.negative z.magnitude) d.exponent field.sign field.magnitude e.1.value in
          let P : Decimal → Type 0 = λ x. DecimalBody x (exponent_octets d.exponent ++ c) in
          rw some (subst P same (parts z (exponent_octets d.exponent) c exponent))
    ]

-- octets after octets
Below-right : (base : ℕ) (xs ys : List ℕ) → Below base (xs ++ ys) → Below base ys
Below-right base [] ys h = h
Below-right base (x ∷ xs) ys h = Below-right base xs ys h.1

-- no octets that spell the decimal are fewer
pub decimal_body-fewest : (d : Decimal) (b : List ℕ) → Below 256 b → DecimalBody d b → length (decimal_body d) ≤ length b
unfolding decimal_body
decimal_body-fewest d b below nothing = omega arith
decimal_body-fewest d b below (parts z e c h) =
    let m : Decimal = make (int_negative c) (int_magnitude c) (signed z.negative z.magnitude) in
    elim (cases_Bool (is_nothing m)) [
      | inl none ↦ rw none (omega arith)
      | inr some ↦
          let exponent = exponent-fewest z e h in
          let coefficient = coefficient-fewest c (Below-right 256 e c below) in
          let written = length-append (exponent_octets m.exponent) (coefficient_octets m.negative m.coefficient) in
          rw some (omega (arith, written, length-append e c))
    ]

-- its parts are octets, the exponent's at most five
pub exponent_octets-short : (e : ℤ) → IsExponent e → (length (exponent_octets e) ≤ 5) × Below 256 (exponent_octets e)
exponent_octets-short e range =
    let z = exponent-Exponent e range in
    let few : 2 * z.0.magnitude + 1 < 128 ^ 5 = omega (arith, z.1.small) in
    rw z.1.spelled (var_int_octets-short z.0.negative z.0.magnitude 5 few, var_int_octets-Below z.0.negative z.0.magnitude)

-- and the body is octets
pub decimal_body-octets : (d : Decimal) → IsDecimal d → All (λ octet. octet < 256) (decimal_body d)
unfolding decimal_body
decimal_body-octets d range =
    elim (cases_Bool (is_nothing d)) [
      | inl none ↦ rw none (All-Below 256 [] tt)
      | inr some ↦
          let c : List ℕ = coefficient_octets d.negative d.coefficient in
          rw some (All-Below 256 (exponent_octets d.exponent ++ c)
          (Below-append 256 (exponent_octets d.exponent) c (exponent_octets-short d.exponent range.exponent).1 (coefficient-Field d.negative d.coefficient).octets))
    ]
