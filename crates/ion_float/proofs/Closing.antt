-- The parts of a run that is a float, without underscores.
use Rattle.std.proofs.Common.{◌≡◌, ℕ, suc, Bool, true, false, not, ◌&&◌, ◌||◌, ◌==◌, nat_lt, if◌then◌else◌, List, [], ◌∷◌, ◌++◌, length, filter, inl, inr, refl, sym, ap, ◌∙◌, subst, arith, append_assoc}
use mathlib.Core.Bool.{true≢false}
use Rattle.std.proofs.lemmas.Bool.{cases_Bool, and_parts, eqb-true}
use Rattle.std.proofs.lemmas.Bool.Decides.{nat_tests}
use Rattle.std.proofs.lemmas.List.Elements.{filter-append}
use Rattle.ion_value.specs.Number.{signed}
use Rattle.ion_value.specs.Digits.{is_digit, digits_from, are_digits, digits_value, all_are, is_whole, has_minus, without_minus, cut_at}
use Rattle.ion_value.specs.Decimal.{is_exponent_mark, is_point, Parts, parts_of, is_fraction, fraction_digits, is_mantissa, power_digits, is_power, power_value}
use Rattle.ion_value.specs.FloatText.{is_float_mark, is_float}
use Rattle.ion_float.proofs.Scanning.{IsSign, none, plus, minus}

-- a run without its underscores
abbrev pub closed : List ℕ → List ℕ
closed run = filter (λ b. not (b == 95)) run

-- ---- digits

digit-other : (b : ℕ) → is_digit b ≡ true → (b == 95) ≡ false
digit-other b e = grind (arith, nat_tests)

pub closed-digits : (after : Bool) (xs : List ℕ) → digits_from after is_digit xs ≡ true → closed xs ≡ filter is_digit xs
closed-digits after [] h = refl
closed-digits after (b ∷ xs) h = elim (cases_Bool (is_digit b)) [
  | inl e ↦
      let rest = (and_parts _ _ h).1 in
      simp (e, digit-other b e) (ap (λ (ys : List ℕ). b ∷ ys) (closed-digits (is_digit b) xs rest))
  | inr e ↦
      let rest = (and_parts _ _ h).1 in
      let head : (is_digit b || (b == 95 && after)) ≡ true = (and_parts _ _ h).0 in
      let mark = (and_parts (b == 95) after (rw e at head)).0 in
      simp (e, mark) (closed-digits (is_digit b) xs rest)
]

pub filter-digits : (xs : List ℕ) → all_are is_digit (filter is_digit xs) ≡ true
filter-digits [] = refl
filter-digits (b ∷ xs) = elim (cases_Bool (is_digit b)) [
  | inl e ↦ simp (e) (filter-digits xs)
  | inr e ↦ simp (e) (filter-digits xs)
]

pub closed-all : (xs : List ℕ) → all_are is_digit xs ≡ true → closed xs ≡ xs
closed-all [] h = refl
closed-all (b ∷ xs) h =
    let parts = and_parts (is_digit b) (all_are is_digit xs) h in
    simp (digit-other b parts.0) (ap (λ (ys : List ℕ). b ∷ ys) (closed-all xs parts.1))

-- digits that begin with one
pub record Begins (xs : List ℕ) : Type 0 where
  pub first : ℕ
  pub rest : List ℕ
  pub is : xs ≡ first ∷ rest
  pub digit : is_digit first ≡ true

no-digit : (b : ℕ) (r : Bool) → is_digit b ≡ false → ((is_digit b || (b == 95 && false)) && r) ≡ true → ⊥
no-digit b r e h =
    let first : (is_digit b || (b == 95 && false)) ≡ true = (and_parts _ r h).0 in
    let mark = (and_parts (b == 95) false (rw e at first)).1 in
    true≢false (sym mark)

pub filter-begins : (xs : List ℕ) → are_digits is_digit xs ≡ true → Begins (filter is_digit xs)
filter-begins [] h = absurd (true≢false (sym h))
filter-begins (b ∷ xs) h = elim (cases_Bool (is_digit b)) [
  | inl e ↦ record { first = b; rest = filter is_digit xs; is = rw e refl; digit = e }
  | inr e ↦ absurd (no-digit b (digits_from (is_digit b) is_digit xs) e h)
]

-- ---- parts

cut-joined : (test : ℕ → Bool) (xs : List ℕ) → (cut_at test xs).0 ++ (cut_at test xs).1 ≡ xs
unfolding cut_at
cut-joined test [] = refl
cut-joined test (b ∷ xs) = elim (cases_Bool (test b)) [
  | inl e ↦ rw e refl
  | inr e ↦ rw e (ap (λ (ys : List ℕ). b ∷ ys) (cut-joined test xs))
]

cut-first : (test : ℕ → Bool) (xs : List ℕ) (b : ℕ) (ys : List ℕ) → (cut_at test xs).1 ≡ b ∷ ys → test b ≡ true
unfolding cut_at
cut-first test [] b ys h = absurd (cc)
cut-first test (x ∷ xs) b ys h = elim (cases_Bool (test x)) [
  | inl e ↦ let same : x ∷ xs ≡ b ∷ ys = rw e at h in subst (λ (z : ℕ). test z ≡ true) (first-same x b xs ys same) e
  | inr e ↦ cut-first test xs b ys (rw e at h)
]
  where
    first-same : (x b : ℕ) (xs ys : List ℕ) → x ∷ xs ≡ b ∷ ys → x ≡ b
    first-same x b xs ys h = cc

pub parts-joined : (bytes : List ℕ) → (parts_of bytes).whole ++ ((parts_of bytes).fraction ++ (parts_of bytes).power) ≡ bytes
unfolding parts_of
parts-joined bytes =
    let mark = cut_at is_exponent_mark bytes in
    let point = cut_at is_point mark.0 in
    sym (append_assoc point.0 point.1 mark.1) ∙ ap (λ (ys : List ℕ). ys ++ mark.1) (cut-joined is_point mark.0) ∙ cut-joined is_exponent_mark bytes

fraction-point : (bytes : List ℕ) (b : ℕ) (ys : List ℕ) → (parts_of bytes).fraction ≡ b ∷ ys → b ≡ 46
unfolding parts_of
fraction-point bytes b ys h = eqb-true b 46 (cut-first is_point (cut_at is_exponent_mark bytes).0 b ys h)

-- ---- the fraction: none, or a point and digits or none

pub data IsFraction : List ℕ → List ℕ → Type 0 where
  without : IsFraction [] []
  pointed : (ds : List ℕ) → all_are is_digit ds ≡ true → IsFraction (46 ∷ ds) ds

fraction-at : (fraction : List ℕ) → ((b : ℕ) (ys : List ℕ) → fraction ≡ b ∷ ys → b ≡ 46) → is_fraction fraction ≡ true → IsFraction (closed fraction) (fraction_digits fraction)
fraction-at [] first h = without
fraction-at (b ∷ []) first h = rw (first b [] refl) (pointed [] refl)
fraction-at (b ∷ d ∷ ds) first h =
    rw (first b (d ∷ ds) refl, closed-digits false (d ∷ ds) h) (pointed (filter is_digit (d ∷ ds)) (filter-digits (d ∷ ds)))

pub fraction-is : (bytes : List ℕ) → is_fraction (parts_of bytes).fraction ≡ true → IsFraction (closed (parts_of bytes).fraction) (fraction_digits (parts_of bytes).fraction)
fraction-is bytes h = fraction-at (parts_of bytes).fraction (fraction-point bytes) h

-- ---- the exponent: a mark, a sign or none, and digits

pub record Exponent (power : List ℕ) : Type 0 where
  pub mark : ℕ
  pub sign : List ℕ
  pub negative : Bool
  pub first : ℕ
  pub rest : List ℕ
  pub is : power ≡ mark ∷ (sign ++ (first ∷ rest))
  pub marks : is_float_mark mark ≡ true
  pub signs : IsSign sign negative
  pub digits : all_are is_digit (first ∷ rest) ≡ true
  pub value : power_value power ≡ signed negative (digits_value 10 (first ∷ rest))

some-digits : (ds : List ℕ) → (nat_lt 0 (length ds) && all_are is_digit ds) ≡ true → (d : ℕ) × (xs : List ℕ) × (ds ≡ d ∷ xs) × (all_are is_digit (d ∷ xs) ≡ true)
some-digits [] h = absurd (true≢false (sym h))
some-digits (d ∷ xs) h = (d, xs, refl, (and_parts _ _ h).1)

and-no : (x : Bool) → (x && false) ≡ false
and-no true = refl
and-no false = refl

plus-power : (c : ℕ) (ds : List ℕ) → is_power is_float_mark (c ∷ 43 ∷ ds) ≡ true → Exponent (c ∷ 43 ∷ ds)
plus-power c [] h = absurd (true≢false (sym (and_parts (is_float_mark c && false) true h).0 ∙ and-no (is_float_mark c)))
plus-power c (d ∷ ds) h =
    let parts = and_parts (is_float_mark c && nat_lt 0 (suc (length ds))) (all_are is_digit (d ∷ ds)) h in
    record {
      mark = c;
      sign = 43 ∷ [];
      negative = false;
      first = d;
      rest = ds;
      is = refl;
      marks = (and_parts (is_float_mark c) (nat_lt 0 (suc (length ds))) parts.0).0;
      signs = plus;
      digits = parts.1;
      value = refl;
    }

minus-power : (c : ℕ) (ds : List ℕ) → is_power is_float_mark (c ∷ 45 ∷ ds) ≡ true → Exponent (c ∷ 45 ∷ ds)
minus-power c [] h = absurd (true≢false (sym (and_parts (is_float_mark c && false) true h).0 ∙ and-no (is_float_mark c)))
minus-power c (d ∷ ds) h =
    let parts = and_parts (is_float_mark c && nat_lt 0 (suc (length ds))) (all_are is_digit (d ∷ ds)) h in
    record {
      mark = c;
      sign = 45 ∷ [];
      negative = true;
      first = d;
      rest = ds;
      is = refl;
      marks = (and_parts (is_float_mark c) (nat_lt 0 (suc (length ds))) parts.0).0;
      signs = minus;
      digits = parts.1;
      value = refl;
    }

bare-power : (c d : ℕ) (ds : List ℕ) → (d == 43) ≡ false → (d == 45) ≡ false → is_power is_float_mark (c ∷ d ∷ ds) ≡ true → Exponent (c ∷ d ∷ ds)
bare-power c d ds e f h =
    let same : power_digits (c ∷ d ∷ ds) ≡ d ∷ ds = rw (e, f) refl in
    let shape : ((is_float_mark c && nat_lt 0 (length (d ∷ ds))) && all_are is_digit (d ∷ ds)) ≡ true = rw same at h in
    let parts = and_parts (is_float_mark c && nat_lt 0 (suc (length ds))) (all_are is_digit (d ∷ ds)) shape in
    record {
      mark = c;
      sign = [];
      negative = false;
      first = d;
      rest = ds;
      is = refl;
      marks = (and_parts (is_float_mark c) (nat_lt 0 (suc (length ds))) parts.0).0;
      signs = none;
      digits = parts.1;
      value = rw (e, f) refl;
    }

pub exponent-is : (power : List ℕ) → is_power is_float_mark power ≡ true → Exponent power
exponent-is [] h = absurd (true≢false (sym h))
exponent-is (c ∷ []) h = absurd (true≢false (sym (and_parts (is_float_mark c && false) true h).0 ∙ and-no (is_float_mark c)))
exponent-is (c ∷ s ∷ rest) h = elim (cases_Bool (s == 43)) [
  | inl e ↦ let is : s ≡ 43 = eqb-true s 43 e in rw is (plus-power c rest (rw is at h))
  | inr e ↦ elim (cases_Bool (s == 45)) [
    | inl f ↦ let is : s ≡ 45 = eqb-true s 45 f in rw is (minus-power c rest (rw is at h))
    | inr f ↦ bare-power c s rest e f h
  ]
]

-- an exponent has no underscore
sign-closed : (sign : List ℕ) (negative : Bool) (ds : List ℕ) → IsSign sign negative → closed (sign ++ ds) ≡ sign ++ closed ds
sign-closed _ _ ds none = refl
sign-closed _ _ ds plus = refl
sign-closed _ _ ds minus = refl

mark-other : (c : ℕ) → is_float_mark c ≡ true → (c == 95) ≡ false
mark-other c e = grind (arith, nat_tests)

pub exponent-closed : (power : List ℕ) (e : Exponent power) → closed power ≡ e.mark ∷ (e.sign ++ (e.first ∷ e.rest))
exponent-closed power e =
    ap (λ (ys : List ℕ). closed ys) e.is
    ∙ rw (mark-other e.mark e.marks) (ap (λ (ys : List ℕ). e.mark ∷ ys) (sign-closed e.sign e.negative (e.first ∷ e.rest) e.signs ∙ ap (λ (ys : List ℕ). e.sign ++ ys) (closed-all (e.first ∷ e.rest) e.digits)))

-- ---- the whole run

-- the shape of a float
pub record Shape (p : Parts) : Type 0 where
  pub whole : are_digits is_digit p.whole ≡ true
  pub fraction : is_fraction p.fraction ≡ true
  pub power : is_power is_float_mark p.power ≡ true

pub shape-is : (p : Parts) → is_float p ≡ true → Shape p
shape-is p h =
    let both = and_parts (is_mantissa p) (is_power is_float_mark p.power) h in
    let mantissa = and_parts (is_whole p.whole) (is_fraction p.fraction) both.0 in
    record { whole = (and_parts (are_digits is_digit p.whole) _ mantissa.0).0; fraction = mantissa.1; power = both.1 }

pub parts-closed : (bytes : List ℕ) (s : Shape (parts_of bytes)) (e : Exponent (parts_of bytes).power)
    → closed bytes ≡ filter is_digit (parts_of bytes).whole ++ (closed (parts_of bytes).fraction ++ (e.mark ∷ (e.sign ++ (e.first ∷ e.rest))))
parts-closed bytes s e =
    let p = parts_of bytes in
    ap (λ (ys : List ℕ). closed ys) (sym (parts-joined bytes))
    ∙ filter-append (λ b. not (b == 95)) p.whole (p.fraction ++ p.power)
    ∙ ap (λ (ys : List ℕ). ys ++ closed (p.fraction ++ p.power)) (closed-digits false p.whole s.whole)
    ∙ ap (λ (ys : List ℕ). filter is_digit p.whole ++ ys) (filter-append (λ b. not (b == 95)) p.fraction p.power ∙ ap (λ (ys : List ℕ). closed p.fraction ++ ys) (exponent-closed p.power e))

pub sign-run : (run : List ℕ) → closed run ≡ (if has_minus run then 45 ∷ [] else []) ++ closed (without_minus run)
sign-run [] = refl
sign-run (b ∷ run) = elim (cases_Bool (b == 45)) [
  | inl e ↦ rw (eqb-true b 45 e) refl
  | inr e ↦ rw e refl
]
