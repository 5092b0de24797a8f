-- Laws of the digits at the front of bytes.
use Rattle.std.proofs.Common.{◌≡◌, ℕ, zero, suc, ◌+◌, ◌*◌, ◌%◌, ◌^◌, ◌<◌, ◌≤◌, Bool, true, false, ◌&&◌, nat_le, List, [], ◌∷◌, ◌++◌, length, take, drop, get_or, map, refl, sym, ap, ◌∙◌, arith, append_assoc, length-append, lit<, add-one, min, Fits, w8, w64, inl, inr}
use Rattle.std.proofs.lemmas.Bool.{cases_Bool, cases_lt, leb-true, lt-ltb}
use Rattle.std.proofs.lemmas.Bool.Decides.{nat_tests}
use Rattle.std.proofs.lemmas.List.{get_or-take, length-take, take_more, take-append-drop, length-map, length-take-le, length-drop, map-append, append-nil, nil_from_length}
use Rattle.std.proofs.Math.Nat.{pow-suc, pow-le-pow_right}
use Rattle.ion_value.specs.Number.{number}
use Rattle.ion_value.specs.declared.timestamp_text.Digits.{Digits}
use Rattle.ion_value.specs.Digits.{is_digit, digit_value, first_is, all_are, cut_at}
use Rattle.ion_value.specs.TimestampRuns.{AreDigits, AreLeading, is_no_digit}
use Rattle.ion_value.proofs.Numbers.{number-append, number-append_one}

-- ---- one digit more

-- what a byte counts as a digit, and which bytes are none
pub digit-byte : (b : ℕ) → b < 256 → (b + 208) % 256 ≤ 9 → (is_digit b ≡ true) × ((b + 208) % 256 ≡ digit_value b)
digit-byte b byte small = (grind (arith, nat_tests), grind (arith, nat_tests))

pub all_are-append : (test : ℕ → Bool) (xs ys : List ℕ) → all_are test (xs ++ ys) ≡ (all_are test xs && all_are test ys)
all_are-append test [] ys = refl
all_are-append test (x ∷ xs) ys = elim (cases_Bool (test x)) [ inl e ↦ rw e (all_are-append test xs ys) | inr e ↦ rw e refl ]

pub digits-more : (bytes : List ℕ) (i : ℕ) → i < length bytes → all_are is_digit (take i bytes) ≡ true → is_digit (get_or bytes i 0) ≡ true
    → all_are is_digit (take (i + 1) bytes) ≡ true
digits-more bytes i within so_far digit = rw (take_more bytes i 0 within, all_are-append is_digit (take i bytes) (get_or bytes i 0 ∷ []), so_far, digit) refl

pub value-more : (bytes : List ℕ) (i n d : ℕ) → i < length bytes → n ≡ number 10 (map digit_value (take i bytes)) → d ≡ digit_value (get_or bytes i 0)
    → n * 10 + d ≡ number 10 (map digit_value (take (i + 1) bytes))
value-more bytes i n d within so_far digit =
    rw (take_more bytes i 0 within, map-append digit_value (take i bytes) (get_or bytes i 0 ∷ []), so_far, digit)
    (sym (number-append_one 10 (map digit_value (take i bytes)) (digit_value (get_or bytes i 0))))

-- nineteen digits fit 64 bits
pub fits-more : (i n d : ℕ) → i < 19 → n < 10 ^ i → d ≤ 9 → Fits w64 (n * 10 + d) × (n * 10 + d < 10 ^ (i + 1))
fits-more i n d few small digit =
    let next : 10 ^ (i + 1) ≡ 10 ^ i * 10 = rw add-one (pow-suc 10 i) in
    let some : i + 1 ≤ 19 = omega arith in
    let powers : 10 ^ (i + 1) ≤ 10 ^ 19 = pow-le-pow_right (lit< tt) some in
    let wide : 10 ^ 19 < 2 ^ 64 = lit< tt in
    (omega arith, omega arith)

-- a byte of a prefix is a byte
pub prefix-within : (bytes : List ℕ) (k i : ℕ) → k ≡ min (length bytes) 19 → i < length (take k bytes) → i < 19
prefix-within bytes k i most within = omega (arith, length-take-le k bytes (omega arith))

pub prefix-byte : (bytes : List ℕ) (k i : ℕ) → i < length (take k bytes) → Fits w8 (get_or bytes i 0) → get_or (take k bytes) i 0 < 256
prefix-byte bytes k i within byte =
    let before : i < k = omega (arith, length-take k bytes) in
    rw (get_or-take k bytes i 0 before) (omega (arith, byte))

-- ---- where the digits end

-- digits up to a byte that is none
pub cut-digits : (xs ys : List ℕ) → all_are is_digit xs ≡ true → first_is is_digit ys ≡ false → cut_at is_no_digit (xs ++ ys) ≡ (xs, ys)
unfolding cut_at
cut-digits [] [] all none = refl
cut-digits [] (y ∷ ys) all none = rw none refl
cut-digits (x ∷ xs) ys all none =
    elim (cases_Bool (is_digit x)) [
      | inl e ↦
          let rest : all_are is_digit xs ≡ true = rw e at all in
          rw (e, cut-digits xs ys rest none) refl
      | inr e ↦ let f = rw e at all in absurd (cc)
    ]

prefix-cut : (bytes xs ys : List ℕ) (d : Digits) → all_are is_digit xs ≡ true → first_is is_digit ys ≡ false → xs ++ ys ≡ bytes → d.count ≡ length xs → d.rest.now ≡ ys
    → (nat_le d.count 38 ≡ true → d.number ≡ number 10 (map digit_value xs)) → AreLeading bytes d
prefix-cut bytes xs ys d all none whole count rest value =
    let cut : (xs, ys) ≡ cut_at is_no_digit bytes = sym (cut-digits xs ys all none) ∙ ap (λ zs. cut_at is_no_digit zs) whole in
    record {
      count = count ∙ ap (λ (p : List ℕ × List ℕ). length p.0) cut;
      rest = rest ∙ ap (λ (p : List ℕ × List ℕ). p.1) cut;
      value = λ few. value few ∙ ap (λ (p : List ℕ × List ℕ). number 10 (map digit_value p.0)) cut;
    }

-- what was read in 64 bits, where a byte that is no digit ended it
pub prefix-few : (bytes : List ℕ) (d : Digits) → AreDigits 19 bytes d.count → d.count < 19 → d.number ≡ number 10 (map digit_value (take d.count bytes)) → d.rest.now ≡ drop d.count bytes
    → AreLeading bytes d
prefix-few bytes d are few value rest =
    prefix-cut bytes (take d.count bytes) (drop d.count bytes) d are.digits (are.ends (lt-ltb d.count 19 few)) (take-append-drop d.count bytes) (sym (length-take-le d.count bytes are.within)) rest (λ _. value)

-- a byte that is no digit
none-first : (bytes : List ℕ) (count : ℕ) → AreDigits (length bytes) bytes count → first_is is_digit (drop count bytes) ≡ false
none-first bytes count are =
    elim (cases_lt count (length bytes)) [
      | inl fewer ↦ are.ends (lt-ltb count (length bytes) fewer)
      | inr all ↦
          let none : drop count bytes ≡ [] = nil_from_length (drop count bytes) (omega (arith, length-drop count bytes)) in
          rw none refl
    ]

no_digits : (bytes : List ℕ) (count : ℕ) → AreDigits (length bytes) bytes count → first_is is_digit bytes ≡ false → count ≡ 0
no_digits bytes zero are none = refl
no_digits [] (suc count) are none = absurd (omega (arith, are.within))
no_digits (b ∷ bytes) (suc count) are none = let all = rw none at are.digits in absurd (cc)

-- no others, where there are at most 38
no_others : (bytes : List ℕ) (count others : ℕ) → AreDigits 19 bytes count → AreDigits (length (drop count bytes)) (drop count bytes) others → 19 + count + others ≤ 38 → others ≡ 0
no_others bytes count others are more few =
    elim (cases_lt count 19) [
      | inl fewer ↦ no_digits (drop count bytes) others more (are.ends (lt-ltb count 19 fewer))
      | inr all ↦ omega arith
    ]

-- and where it went on
pub prefix-many : (prefix bytes : List ℕ) (high low count others : ℕ) (d : Digits) → length prefix ≡ 19 → all_are is_digit prefix ≡ true → number 10 (map digit_value prefix) ≡ high
    → AreDigits 19 bytes count → low ≡ number 10 (map digit_value (take count bytes)) → AreDigits (length (drop count bytes)) (drop count bytes) others
    → d.number ≡ high * 10 ^ count + low → d.count ≡ 19 + count + others → d.rest.now ≡ drop others (drop count bytes) → AreLeading (prefix ++ bytes) d
prefix-many prefix bytes high low count others d long all is_high are is_low more value total rest =
    let first = take count bytes in
    let second = take others (drop count bytes) in
    let after = drop others (drop count bytes) in
    let whole : (prefix ++ (first ++ second)) ++ after ≡ prefix ++ bytes =
    simp append_assoc (ap (λ zs. prefix ++ (first ++ zs)) (take-append-drop others (drop count bytes)) ∙ ap (λ zs. prefix ++ zs) (take-append-drop count bytes)) in
    let digits : all_are is_digit (prefix ++ (first ++ second)) ≡ true = simp (all_are-append is_digit, all, are.digits, more.digits) in
    let counted : 19 + count + others ≡ length (prefix ++ (first ++ second)) =
    simp length-append (omega (arith, length-take-le count bytes are.within, length-take-le others (drop count bytes) more.within)) in
    prefix-cut (prefix ++ bytes) (prefix ++ (first ++ second)) after d digits (none-first (drop count bytes) others more) whole (total ∙ counted) rest
    (λ few.
    let none : others ≡ 0 = no_others bytes count others are more (omega (arith, leb-true d.count 38 few)) in
    let alone : first ++ second ≡ first = rw none (append-nil first) in
    let long_first : length (map digit_value first) ≡ count = simp length-map (length-take-le count bytes are.within) in
    rw (alone, map-append digit_value prefix first, number-append 10 (map digit_value prefix) (map digit_value first), long_first, is_high, ← is_low) value)

-- the digits at the front, and what stands after them
pub cut-parts : (bytes : List ℕ) → let cut : List ℕ × List ℕ = cut_at is_no_digit bytes in
    (all_are is_digit cut.0 ≡ true) × (first_is is_digit cut.1 ≡ false) × (cut.0 ++ cut.1 ≡ bytes)
unfolding cut_at
cut-parts [] = (refl, refl, refl)
cut-parts (b ∷ bytes) =
    let rest = cut-parts bytes in
    elim (cases_Bool (is_digit b)) [
      | inl e ↦
          let all : (is_digit b && all_are is_digit (cut_at is_no_digit bytes).0) ≡ true = rw e rest.0 in
          rw e (all, rest.1, ap (λ xs. b ∷ xs) rest.2)
      | inr e ↦ rw e (refl, e, refl)
    ]
