-- Digits, a point among them or none, and an exponent after them.
use Rattle.std.proofs.Common.{◌≡◌, ℕ, ◌+◌, ◌^◌, ◌<◌, ◌≤◌, ℤ, pos, ◌-ℤ◌, Bool, true, false, ◌||◌, ◌==◌, if◌then◌else◌, Some, Ok, List, [], ◌∷◌, ◌++◌, length, take, drop, get_or, filter, refl, sym, ap, subst, ◌∙◌, arith, suc}
use Rattle.std.proofs.lemmas.Bool.{and_parts, lt-ltb}
use Rattle.std.proofs.lemmas.Bool.Decides.{nat_tests}
use Rattle.std.proofs.lemmas.Int.{ints}
use Rattle.std.proofs.lemmas.List.{append_assoc, append-nil, length-take-le}
use Rattle.std.proofs.Math.Nat.{pow-le-pow_right}
use Rattle.ion_value.specs.declared.decimal.Decimal.{Decimal}
use Rattle.ion_value.specs.Decimal.{IsDecimal, Parts, parts_of, is_point, is_decimal_mark, is_exponent_mark, is_fraction, is_power, power_value, fraction_digits, decimal_in_range, decimal_of_parts, decimal_of_text}
use Rattle.ion_value.specs.Digits.{is_digit, digits_value, all_are, are_digits, cut_at, first_is, has_minus, is_whole}
use Rattle.ion_value.specs.Number.{signed}
use Rattle.ion_value.proofs.LeadingDigits.{all_are-append}
use Rattle.ion_value.proofs.TextDigits.{whole-is, zero_first}
use Rattle.ion_value.proofs.TextDecimals.{all-filter, all-some, decimal-in_range, decimal-text, make_parts, sign-read}
use Rattle.ion_float.proofs.Closing.{closed-all}
use Rattle.ion_text_in.specs.declared.quick.Mantissa.{Mantissa}
use Rattle.ion_text_in.specs.declared.quick.Power.{Power}
use Rattle.ion_text_in.specs.declared.run.Run.TheVariants as run
use Rattle.ion_text_in.specs.Quick.{number_after, scaled, signed_text, stops, AreSpelling, AreWhole, IsMantissa, IsPointed, IsPower, IsQuick}
use Rattle.ion_text_in.specs.Runs.{stays}
use Rattle.ion_text_in.specs.Token.{run_token}
use Rattle.ion_text_in.proofs.DigitNumbers.{after-joined, below}
use Rattle.ion_text_in.proofs.QuickNumbers.{all-stay, decimal-alone, pointed-stay, places-within, pointed-text, sign-front, split-text, stop-ends, taken-some, zero-front}
use Rattle.ion_text_in.proofs.SpelledNumbers.{number-is}

-- ---- where the parts are cut

digit-mark : (b : ℕ) → is_digit b ≡ true → is_exponent_mark b ≡ false
digit-mark b e = grind (arith, nat_tests)

digit-point : (b : ℕ) → is_digit b ≡ true → is_point b ≡ false
digit-point b e = grind (arith, nat_tests)

-- what no digit passes cuts after them
cut-after : (test : ℕ → Bool) (ds ys : List ℕ) → ((b : ℕ) → is_digit b ≡ true → test b ≡ false) → all_are is_digit ds ≡ true
    → cut_at test (ds ++ ys) ≡ (ds ++ (cut_at test ys).0, (cut_at test ys).1)
unfolding cut_at
cut-after test [] ys apart e = refl
cut-after test (d ∷ ds) ys apart e =
    let parts = and_parts (is_digit d) (all_are is_digit ds) e in
    rw (apart d parts.0, cut-after test ds ys apart parts.1) refl

plain-parts : (ds : List ℕ) (c : ℕ) (ys : List ℕ) → all_are is_digit ds ≡ true → is_exponent_mark c ≡ true → parts_of (ds ++ (c ∷ ys)) ≡ make_parts ds [] (c ∷ ys)
unfolding parts_of cut_at
plain-parts ds c ys digits e =
    rw (cut-after is_exponent_mark ds (c ∷ ys) digit-mark digits, e, cut-after is_point ds [] digit-point digits, append-nil ds) refl

pointed-parts : (ds fs : List ℕ) (c : ℕ) (ys : List ℕ) → all_are is_digit ds ≡ true → all_are is_digit fs ≡ true → is_exponent_mark c ≡ true
    → parts_of (ds ++ (46 ∷ (fs ++ (c ∷ ys)))) ≡ make_parts ds (46 ∷ fs) (c ∷ ys)
unfolding parts_of cut_at
pointed-parts ds fs c ys digits places e =
    rw (
      cut-after is_exponent_mark ds (46 ∷ (fs ++ (c ∷ ys))) digit-mark digits,
      cut-after is_exponent_mark fs (c ∷ ys) digit-mark places,
      e,
      append-nil fs,
      cut-after is_point ds (46 ∷ fs) digit-point digits,
      append-nil ds,
    ) refl

-- ---- what the parts spell

digits-are : (ds : List ℕ) → 0 < length ds → all_are is_digit ds ≡ true → are_digits is_digit ds ≡ true
digits-are [] some e = absurd (omega (arith, some))
digits-are (d ∷ ds) some e = all-some d ds e

whole-front : (bytes : List ℕ) (k : ℕ) → AreWhole bytes k → is_whole (take k bytes) ≡ true
whole-front bytes k so =
    let within : k ≤ length bytes = omega (arith, so.within) in
    let zeros : zero_first (take k bytes) ≡ false = ap zero_first (sym (append-nil (take k bytes))) ∙ zero-front bytes [] k so.some within so.no_zeros refl in
    whole-is (take k bytes) ∙ rw (digits-are (take k bytes) (taken-some bytes k so.some within) so.digits, zeros) refl

fraction-front : (fs : List ℕ) → all_are is_digit fs ≡ true → is_fraction (46 ∷ fs) ≡ true
fraction-front [] e = refl
fraction-front (f ∷ fs) e = all-some f fs e

both-digits : (ds fs : List ℕ) → all_are is_digit ds ≡ true → all_are is_digit fs ≡ true → all_are is_digit (ds ++ fs) ≡ true
both-digits ds fs e f = all_are-append is_digit ds fs ∙ rw (e, f) refl

value-is : (ds : List ℕ) → all_are is_digit ds ≡ true → digits_value 10 ds ≡ number_after 0 ds
value-is ds e = rw (closed-all ds e) (sym (number-is ds e))

value-both : (ds fs : List ℕ) → all_are is_digit ds ≡ true → all_are is_digit fs ≡ true
    → digits_value 10 (filter is_digit ds ++ fraction_digits (46 ∷ fs)) ≡ number_after (number_after 0 ds) fs
value-both ds fs e f = rw (all-filter ds e, all-filter fs f) (value-is (ds ++ fs) (both-digits ds fs e f) ∙ after-joined 0 ds fs)

-- digits alone
pub plain-mantissa : (bytes : List ℕ) (k : ℕ) → AreWhole bytes k → IsMantissa bytes (number_after 0 (take k bytes)) 0 k
plain-mantissa bytes k so =
    let n : ℕ = number_after 0 (take k bytes) in
    record {
      some = so.some;
      within = so.within;
      few = omega arith;
      goes = all-stay (take k bytes) so.digits;
      plain = λ power. sign-front (take k bytes) power (taken-some bytes k so.some (omega (arith, so.within))) so.digits;
      parts = λ mark power e. subst (λ (p : Parts). AreSpelling p n 0 (mark ∷ power)) (sym (plain-parts (take k bytes) mark power so.digits e)) (record {
        mantissa = rw (whole-front bytes k so) refl;
        digits = rw (all-filter (take k bytes) so.digits, append-nil (take k bytes)) (value-is (take k bytes) so.digits);
        fraction = refl;
        exponent = refl;
      });
    }

-- digits with a point among them
pub pointed-mantissa : (bytes : List ℕ) (k : ℕ) (x : Mantissa) → AreWhole bytes k → get_or bytes k 0 ≡ 46 → IsPointed bytes k x → IsMantissa bytes x.number x.places x.end
pointed-mantissa bytes k x so point is =
    let ds : List ℕ = take k bytes in
    let fs : List ℕ = take x.places (drop (k + 1) bytes) in
    let text = pointed-text bytes k x so point is in
    let front : (tail : List ℕ) → take x.end bytes ++ tail ≡ ds ++ (46 ∷ (fs ++ tail))
    = λ tail. ap (λ (l : List ℕ). l ++ tail) text ∙ append_assoc (take k bytes) (46 ∷ fs) tail in
    let long : length fs ≡ x.places = length-take-le x.places (drop (k + 1) bytes) (places-within bytes k x is) in
    record {
      some = omega (arith, is.end);
      within = is.within;
      few = omega (arith, is.few);
      goes = ap (all_are (stays run.Number)) text ∙ pointed-stay (take k bytes) fs so.digits is.digits;
      plain = λ power. ap has_minus (front power) ∙ sign-front (take k bytes) (46 ∷ (fs ++ power)) (taken-some bytes k so.some (omega (arith, so.within))) so.digits;
      parts = λ mark power e. subst (λ (p : Parts). AreSpelling p x.number x.places (mark ∷ power))
          (sym (ap parts_of (front (mark ∷ power)) ∙ pointed-parts (take k bytes) fs mark power so.digits is.digits e)) (record {
            mantissa = rw (whole-front bytes k so, fraction-front fs is.digits) refl;
            digits = value-both (take k bytes) fs so.digits is.digits ∙ sym is.number;
            fraction = rw (all-filter fs is.digits) long;
            exponent = refl;
          });
    }

-- ---- the exponent

-- how many bytes there are of a sign
abbrev pub sign_length : Bool → ℕ
sign_length below = if below then 1 else 0

take-signed : (below : Bool) (ys : List ℕ) (n : ℕ) → take (sign_length below + n) (signed_text below ys) ≡ signed_text below (take n ys)
take-signed true ys n = let same : 1 + n ≡ suc n = omega arith in ap (λ (k : ℕ). take k (45 ∷ ys)) same
take-signed false ys n = let same : 0 + n ≡ n = omega arith in ap (λ (k : ℕ). take k ys) same

few-spell : (ds : List ℕ) → length ds ≤ 3 → all_are is_digit ds ≡ true → number_after 0 ds < 1000
few-spell ds few e =
    let less : 10 ^ length ds ≤ 10 ^ 3 = pow-le-pow_right (omega arith) few in
    omega (arith, below 0 ds e, less)

pub power-after : (less : Bool) (bytes ys : List ℕ) (k m j : ℕ) → k < length bytes → signed_text less ys ≡ drop (k + 1) bytes → j ≤ length ys → 0 < j → j ≤ 3 → all_are is_digit (take j ys) ≡ true
    → m ≡ number_after 0 (take j ys) → k + 1 + (sign_length less + j) < length bytes → stops (get_or bytes (k + 1 + (sign_length less + j)) 0) ≡ true
    → IsPower bytes k (record { below = less; magnitude = m; end = k + 1 + (sign_length less + j) })
power-after less bytes ys k m j here after long some few digits number within stop =
    let count = length-take-le j ys long in
    let small = few-spell (take j ys) (omega (arith, count, few)) digits in
    record {
      written = take j ys;
      after = omega arith;
      some = omega (arith, count, some);
      digits = digits;
      number = number;
      small = omega (arith, small, number);
      text = split-text bytes (get_or bytes k 0) k (sign_length less + j) here refl
          ∙ ap (λ (l : List ℕ). take k bytes ++ (get_or bytes k 0 ∷ l)) (ap (take (sign_length less + j)) (sym after) ∙ take-signed less ys j);
      within = within;
      stop = stop;
    }

no-sign : (ds : List ℕ) → 0 < length ds → all_are is_digit ds ≡ true → (first_is (λ b. b == 43 || b == 45) ds ≡ false) × (first_is (λ b. b == 45) ds ≡ false)
no-sign [] some e = absurd (omega (arith, some))
no-sign (d ∷ ds) some e = let parts = and_parts (is_digit d) (all_are is_digit ds) e in let digit = parts.0 in (grind (arith, nat_tests), grind (arith, nat_tests))

-- what an exponent counts after its mark
pub power-is : (test : ℕ → Bool) (mark : ℕ) (less : Bool) (ds : List ℕ) → test mark ≡ true → 0 < length ds → all_are is_digit ds ≡ true
    → (is_power test (mark ∷ signed_text less ds) ≡ true) × (power_value (mark ∷ signed_text less ds) ≡ signed less (number_after 0 ds))
power-is test mark true ds e some digits = (rw (e, lt-ltb 0 (length ds) some) digits, ap (signed true) (value-is ds digits))
power-is test mark false ds e some digits =
    let none = no-sign ds some digits in
    (rw (none.0, e, lt-ltb 0 (length ds) some) digits, rw (none.0, none.1) (ap (signed false) (value-is ds digits)))

signed-stay : (less : Bool) (ds : List ℕ) → all_are is_digit ds ≡ true → all_are (stays run.Number) (signed_text less ds) ≡ true
signed-stay true ds e = all-stay ds e
signed-stay false ds e = all-stay ds e

-- a number with an exponent goes on to its end
pub power-stay : (bytes : List ℕ) (n places k : ℕ) (p : Power) → IsMantissa bytes n places k → stays run.Number (get_or bytes k 0) ≡ true → IsPower bytes k p → all_are (stays run.Number) (take p.end bytes) ≡ true
power-stay bytes n places k p so mark is =
    ap (all_are (stays run.Number)) is.text
    ∙ all_are-append (stays run.Number) (take k bytes) (get_or bytes k 0 ∷ signed_text p.below is.written)
    ∙ rw (so.goes, mark) (signed-stay p.below is.written is.digits)

-- ---- decimals

decimal-spelled : (negative : Bool) (p : Parts) (n places : ℕ) (power : List ℕ) → AreSpelling p n places power → is_power is_decimal_mark power ≡ true
    → decimal_of_parts negative p ≡ decimal_in_range negative n (power_value power -ℤ pos places)
decimal-spelled negative p n places power so e = rw (so.exponent, so.mantissa, e, so.digits, so.fraction) refl

powered-valid : (negative less : Bool) (n m places : ℕ) → n < 2 ^ 128 → m < 1000 → places ≤ 19 → IsDecimal (scaled negative n (signed less m -ℤ pos places))
powered-valid negative true n m places small few less = record { coefficient = small; exponent = (omega (arith, ints, few, less), omega (arith, ints, few, less)) }
powered-valid negative false n m places small few less = record { coefficient = small; exponent = (omega (arith, ints, few, less), omega (arith, ints, few, less)) }

-- a decimal with an exponent
pub quick-power : (negative : Bool) (bytes : List ℕ) (n places k : ℕ) (p : Power) (e : ℤ) → IsMantissa bytes n places k → get_or bytes k 0 ≡ 100 → IsPower bytes k p → n < 2 ^ 128
    → e ≡ signed p.below p.magnitude -ℤ pos places → IsQuick negative bytes (record { negative = negative; number = n; exponent = Some e; count = p.end; canonical = false })
quick-power negative bytes n places k p e so mark is small same =
    let power : List ℕ = signed_text p.below is.written in
    let text : take p.end bytes ≡ take k bytes ++ (100 ∷ power) = is.text ∙ ap (λ (b : ℕ). take k bytes ++ (b ∷ power)) mark in
    let all : List ℕ = take k bytes ++ (100 ∷ power) in
    let d : Decimal = scaled negative n (signed p.below p.magnitude -ℤ pos places) in
    let valid = powered-valid negative p.below n p.magnitude places small is.small so.few in
    let sign = sign-read negative all (so.plain (100 ∷ power)) in
    let exponent = power-is is_decimal_mark 100 p.below is.written refl is.some is.digits in
    let counts : power_value (100 ∷ power) -ℤ pos places ≡ signed p.below p.magnitude -ℤ pos places
    = ap (λ (z : ℤ). z -ℤ pos places) (exponent.1 ∙ ap (signed p.below) (sym is.number)) in
    let read : decimal_of_text (signed_text negative all) ≡ Ok d
    = sym (decimal-text (signed_text negative all) all negative (sym sign.0) (sym sign.1))
    ∙ decimal-spelled negative (parts_of all) n places (100 ∷ power) (so.parts 100 power refl) exponent.0
    ∙ ap (decimal_in_range negative n) counts
    ∙ decimal-in_range d valid in
    let stay : stays run.Number (get_or bytes k 0) ≡ true = ap (stays run.Number) mark in
    rw same (record {
      sign = refl;
      some = omega (arith, is.after);
      within = is.within;
      goes = power-stay bytes n places k p so stay is;
      ends = stop-ends bytes p.end is.within is.stop;
      gives = ap (λ (l : List ℕ). run_token (signed_text negative l)) text ∙ decimal-alone (signed_text negative all) d read;
      range = valid;
      spelled = record { int = λ none. absurd (cc none); text = λ e. absurd (cc e) };
    })
