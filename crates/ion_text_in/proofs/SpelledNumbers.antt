-- Numbers of which the bytes that were read are the canonical text.
use Rattle.std.proofs.Common.{◌≡◌, inl, inr, ℕ, zero, suc, ◌+◌, ◌*◌, ◌-◌, ◌^◌, ◌<◌, ◌≤◌, Bool, true, false, ◌&&◌, ◌||◌, ◌==◌, nat_lt, Some, None, List, [], ◌∷◌, ◌++◌, length, take, drop, get_or, map, refl, sym, ap, ◌∙◌, arith}
use Rattle.std.proofs.lemmas.Bool.{cases_Bool, and_parts, lt-ltb, or_parts}
use Rattle.std.proofs.lemmas.Bool.Decides.{nat_tests}
use Rattle.std.proofs.lemmas.List.{length-map, length-take-le}
use Rattle.std.proofs.Math.Nat.{pow-zero, pow-suc}
use Rattle.std.specs.Fmt.{decimal}
use Rattle.ion_value.specs.Decimal.{decimal_text, magnitude_text, pointed_text}
use Rattle.ion_value.specs.Digits.{all_are, digit_value, first_is, is_digit}
use Rattle.ion_value.specs.Number.{signed}
use Rattle.ion_value.proofs.SpelledDigits.{decimal-spelled, pointed-spelled, spelled_by, NoZeros}
use Rattle.ion_text_in.specs.Quick.{number_after, scaled, signed_text, stops, AreSpelled, AreWhole}
use Rattle.ion_text_in.proofs.DigitNumbers.{after-front, after-joined, cut-digits}

-- ---- the number that digits spell

value-digit : (b : ℕ) → is_digit b ≡ true → b - 48 ≡ digit_value b
value-digit b e = grind (arith, nat_tests)

one-on : (n v l m rest : ℕ) → m ≡ l → (n * 10 + v) * 10 ^ l + rest ≡ n * 10 ^ suc l + (v * 10 ^ m + rest)
one-on n v l m rest e = rw (e, pow-suc) (omega arith)

number-after : (n : ℕ) (ds : List ℕ) → all_are is_digit ds ≡ true → number_after n ds ≡ n * 10 ^ length ds + spelled_by ds
number-after n [] e = rw pow-zero (omega arith)
number-after n (d ∷ ds) e =
    let parts = and_parts (is_digit d) (all_are is_digit ds) e in
    number-after (n * 10 + (d - 48)) ds parts.1
    ∙ ap (λ (v : ℕ). (n * 10 + v) * 10 ^ length ds + spelled_by ds) (value-digit d parts.0)
    ∙ one-on n (digit_value d) (length ds) (length (map digit_value ds)) (spelled_by ds) (length-map ds digit_value)

pub number-is : (ds : List ℕ) → all_are is_digit ds ≡ true → number_after 0 ds ≡ spelled_by ds
number-is ds e = let after = number-after 0 ds e in omega (arith, after)

pub after-both : (k : ℕ) (ds : List ℕ) → all_are is_digit ds ≡ true → number_after 0 (take k ds) * 10 ^ length (drop k ds) + number_after 0 (drop k ds) ≡ number_after 0 ds
after-both k ds e =
    let after = (cut-digits k ds e).1 in
    ap (λ (m : ℕ). number_after 0 (take k ds) * 10 ^ length (drop k ds) + m) (number-is (drop k ds) after)
    ∙ sym (number-after (number_after 0 (take k ds)) (drop k ds) after)
    ∙ after-front 0 k ds

after-least : (n : ℕ) (ds : List ℕ) → n ≤ number_after n ds
after-least n [] = omega arith
after-least n (d ∷ ds) = let more = after-least (n * 10 + (d - 48)) ds in omega (arith, more)

-- ---- zeros

-- no zero stands before another digit or an underscore, or alone after a minus
abbrev pub HasNoZero : Bool → List ℕ → Type 0
HasNoZero negative bytes =
    (first_is (λ b. b == 48) bytes && (first_is (λ b. is_digit b || b == 95) (drop 1 bytes) || (negative && first_is stops (drop 1 bytes)))) ≡ false

first-either : (p q r : Bool) → (p && (q || r)) ≡ false → (p && q) ≡ false
first-either true true r e = e
first-either true false r e = refl
first-either false q r e = refl

pub whole-front : (negative : Bool) (bytes : List ℕ) (k : ℕ) → 0 < k → k < length bytes → all_are is_digit (take k bytes) ≡ true → HasNoZero negative bytes → AreWhole bytes k
whole-front negative bytes k some within digits none = record {
  some = some;
  within = within;
  digits = digits;
  no_zeros = first-either (first_is (λ b. b == 48) bytes) (first_is (λ b. is_digit b || b == 95) (drop 1 bytes)) (negative && first_is stops (drop 1 bytes)) none;
}

-- a digit is one of the bytes before which no zero stands
no-other : (c : ℕ) → is_digit c ≡ true → (is_digit c || c == 95) ≡ false → ⊥
no-other c e other = let parts = or_parts (is_digit c) (c == 95) other in absurd (cc (e, parts.0))

front-zeros : (bytes : List ℕ) (k : ℕ) → 0 < k → k < length bytes → all_are is_digit (take k bytes) ≡ true
    → (first_is (λ b. b == 48) bytes && first_is (λ b. is_digit b || b == 95) (drop 1 bytes)) ≡ false → NoZeros (take k bytes)
front-zeros [] k some within digits none = absurd (omega (arith, within))
front-zeros (b ∷ bytes) zero some within digits none = absurd (omega (arith, some))
front-zeros (b ∷ bytes) (suc zero) some within digits none = inl refl
front-zeros (b ∷ []) (suc (suc k)) some within digits none = absurd (omega (arith, within))
front-zeros (b ∷ c ∷ bytes) (suc (suc k)) some within digits none = elim (cases_Bool (b == 48)) [
  | inl e ↦
      let second = and_parts (is_digit c) (all_are is_digit (take k bytes)) (and_parts (is_digit b) (is_digit c && all_are is_digit (take k bytes)) digits).1 in
      let apart : ((b == 48) && (is_digit c || c == 95)) ≡ false = none in
      absurd (no-other c second.0 (rw e at apart))
  | inr e ↦ inr e
]

-- no zero is first after a minus
zero-apart : (bytes : List ℕ) (k : ℕ) → 0 < k → k < length bytes → all_are is_digit (take k bytes) ≡ true → stops (get_or bytes k 0) ≡ true → HasNoZero true bytes
    → first_is (λ b. b == 48) bytes ≡ false
zero-apart [] k some within digits stop none = absurd (omega (arith, within))
zero-apart (b ∷ bytes) zero some within digits stop none = absurd (omega (arith, some))
zero-apart (b ∷ []) (suc k) some within digits stop none = absurd (omega (arith, within))
zero-apart (b ∷ c ∷ bytes) (suc zero) some within digits stop none = elim (cases_Bool (b == 48)) [
  | inl e ↦
      let apart : ((b == 48) && ((is_digit c || c == 95) || (true && stops c))) ≡ false = none in
      let parts = or_parts (is_digit c || c == 95) (stops c) (rw e at apart) in
      let last : stops c ≡ true = stop in
      absurd (cc (parts.1, last))
  | inr e ↦ e
]
zero-apart (b ∷ c ∷ bytes) (suc (suc k)) some within digits stop none = elim (cases_Bool (b == 48)) [
  | inl e ↦
      let second = and_parts (is_digit c) (all_are is_digit (take k bytes)) (and_parts (is_digit b) (is_digit c && all_are is_digit (take k bytes)) digits).1 in
      let apart : ((b == 48) && ((is_digit c || c == 95) || (true && stops c))) ≡ false = none in
      absurd (no-other c second.0 (or_parts (is_digit c || c == 95) (stops c) (rw e at apart)).0)
  | inr e ↦ e
]

digit-more : (b : ℕ) → is_digit b ≡ true → (b == 48) ≡ false → 0 < b - 48
digit-more b e other = grind (arith, nat_tests)

some-number : (bytes : List ℕ) (k : ℕ) → 0 < k → k < length bytes → all_are is_digit (take k bytes) ≡ true → first_is (λ b. b == 48) bytes ≡ false → 0 < number_after 0 (take k bytes)
some-number [] k some within digits other = absurd (omega (arith, within))
some-number (b ∷ bytes) zero some within digits other = absurd (omega (arith, some))
some-number (b ∷ bytes) (suc k) some within digits other =
    let parts = and_parts (is_digit b) (all_are is_digit (take k bytes)) digits in
    let more = digit-more b parts.0 other in
    let least = after-least (0 * 10 + (b - 48)) (take k bytes) in
    omega (arith, more, least)

-- ---- ints

kept : (negative : Bool) (n : ℕ) → (negative ≡ true → 0 < n) → (negative && nat_lt 0 n) ≡ negative
kept true n some = lt-ltb 0 n (some refl)
kept false n some = refl

-- of so many bytes that are digits, the text of the number is these
front-text : (bytes : List ℕ) (k : ℕ) → AreWhole bytes k → k ≤ 38 → decimal (number_after 0 (take k bytes)) ≡ take k bytes
front-text bytes k so few =
    let long = length-take-le k bytes (omega (arith, so.within)) in
    ap decimal (number-is (take k bytes) so.digits)
    ∙ decimal-spelled (take k bytes) (omega (arith, long, so.some)) (omega (arith, long, few)) so.digits (front-zeros bytes k so.some so.within so.digits so.no_zeros)

int-sign : (negative : Bool) (bytes : List ℕ) (k : ℕ) → AreWhole bytes k → stops (get_or bytes k 0) ≡ true → HasNoZero negative bytes → negative ≡ true → 0 < number_after 0 (take k bytes)
int-sign true bytes k so stop none is = some-number bytes k so.some so.within so.digits (zero-apart bytes k so.some so.within so.digits stop none)
int-sign false bytes k so stop none is = absurd (cc is)

pub int-spelled : (negative : Bool) (bytes : List ℕ) (k : ℕ) → AreWhole bytes k → k ≤ 38 → stops (get_or bytes k 0) ≡ true → HasNoZero negative bytes
    → AreSpelled (signed_text negative (take k bytes)) (record { negative = negative; number = number_after 0 (take k bytes); exponent = None; count = k; canonical = true })
int-spelled negative bytes k so few stop none = record {
  int = λ _. refl;
  text = λ _.
      ap (signed_text negative) (sym (front-text bytes k so few))
      ∙ ap (λ (b : Bool). signed_text b (decimal (number_after 0 (take k bytes)))) (sym (kept negative (number_after 0 (take k bytes)) (int-sign negative bytes k so stop none)));
}

-- ---- decimals

magnitude-pointed : (n j : ℕ) → 0 < j → j ≤ 19 → magnitude_text n (signed true j) ≡ pointed_text n j
magnitude-pointed n zero some few = absurd (omega (arith, some))
magnitude-pointed n (suc i) some few =
    let below : i < 38 = omega (arith, few) in
    let same : 1 + i ≡ suc i = omega arith in
    rw (lt-ltb i 38 below) (ap (pointed_text n) same)

pub decimal-pointed : (negative : Bool) (xs ys text : List ℕ) → text ≡ xs ++ (46 ∷ ys) → all_are is_digit xs ≡ true → all_are is_digit ys ≡ true → 0 < length xs → length xs ≤ 38 → NoZeros xs
    → 0 < length ys → length ys ≤ 19
    → signed_text negative text ≡ decimal_text (scaled negative (number_after (number_after 0 xs) ys) (signed true (length ys)))
decimal-pointed negative xs ys text is xs_digits ys_digits some few first more less =
    let both : all_are is_digit (xs ++ ys) ≡ true = joined xs ys xs_digits ys_digits in
    let n : number_after (number_after 0 xs) ys ≡ spelled_by (xs ++ ys) = sym (after-joined 0 xs ys) ∙ number-is (xs ++ ys) both in
    ap (signed_text negative) (is ∙ (sym (pointed-spelled xs ys some few xs_digits ys_digits first)
    ∙ (ap (λ (m : ℕ). pointed_text m (length ys)) (sym n) ∙ sym (magnitude-pointed (number_after (number_after 0 xs) ys) (length ys) more less))))
  where
    joined : (xs ys : List ℕ) → all_are is_digit xs ≡ true → all_are is_digit ys ≡ true → all_are is_digit (xs ++ ys) ≡ true
    joined [] ys e f = f
    joined (x ∷ xs) ys e f = let parts = and_parts (is_digit x) (all_are is_digit xs) e in rw parts.0 (joined xs ys parts.1 f)

pub pointed-is : (negative : Bool) (bytes text : List ℕ) (k j : ℕ) → AreWhole bytes k → 0 < j → j ≤ length (drop (k + 1) bytes) → all_are is_digit (take j (drop (k + 1) bytes)) ≡ true → k + j ≤ 19
    → text ≡ take k bytes ++ (46 ∷ take j (drop (k + 1) bytes))
    → AreSpelled (signed_text negative text)
    (record { negative = negative; number = number_after (number_after 0 (take k bytes)) (take j (drop (k + 1) bytes)); exponent = Some (signed true j); count = k + 1 + j; canonical = true })
pointed-is negative bytes text k j so some within digits few is =
    let front = length-take-le k bytes (omega (arith, so.within)) in
    let after = length-take-le j (drop (k + 1) bytes) within in
    record {
      int = λ none. absurd (cc none);
      text = λ _.
          decimal-pointed negative (take k bytes) (take j (drop (k + 1) bytes)) text is so.digits digits (omega (arith, front, so.some)) (omega (arith, front, few)) (front-zeros bytes k so.some so.within so.digits so.no_zeros)
          (omega (arith, after, some)) (omega (arith, after, few))
          ∙ ap (λ (m : ℕ). decimal_text (scaled negative (number_after (number_after 0 (take k bytes)) (take j (drop (k + 1) bytes))) (signed true m))) after;
    }
