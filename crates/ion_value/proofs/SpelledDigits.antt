-- Digits are the text of the number that they spell.
use Rattle.std.proofs.Common.{◌≡◌, ◌⊎◌, inl, inr, ℕ, zero, suc, ◌+◌, ◌-◌, ◌*◌, ◌/◌, ◌%◌, ◌^◌, ◌<◌, ◌≤◌, true, false, ◌==◌, List, [], ◌∷◌, ◌++◌, length, map, replicate, refl, sym, ap, subst, ◌∙◌, arith, lit<}
use Rattle.std.specs.Fmt.{decimal}
use Rattle.std.proofs.lemmas.Bool.{and_parts}
use Rattle.std.proofs.lemmas.Bool.Decides.{nat_tests}
use Rattle.std.proofs.lemmas.List.{length-append, length-map, length-replicate, map-append}
use Rattle.std.proofs.lemmas.Nat.{div-mul-add, mod-mul-add}
use Rattle.std.proofs.Math.Nat.{pow-zero, pow-suc, pow-le-pow_right, mul-le-mul_right}
use Rattle.ion_value.specs.Number.{number}
use Rattle.ion_value.specs.Digits.{is_digit, digit_value, first_is, all_are, fixed_digits}
use Rattle.ion_value.specs.Decimal.{pointed_text}
use Rattle.ion_value.proofs.FixedDigits.{fixed_digits-add, fixed_digits-decimal}
use Rattle.ion_value.proofs.Numbers.{number-append}
use Rattle.ion_value.proofs.PointedText.{fixed_digits-rest}
use Rattle.ion_value.proofs.TextDecimals.{spells}

-- the number that digits spell
abbrev pub spelled_by : List ℕ → ℕ
spelled_by ds = number 10 (map digit_value ds)

-- digits of which a first zero stands alone
abbrev pub NoZeros : List ℕ → Type 0
NoZeros ds = (length ds ≡ 1) ⊎ (first_is (λ b. b == 48) ds ≡ false)

digit-counts : (d : ℕ) → is_digit d ≡ true → (digit_value d < 10) × (48 + digit_value d ≡ d)
digit-counts d e = (grind (arith, nat_tests), grind (arith, nat_tests))

number-more : (d : ℕ) (ds : List ℕ) → spelled_by (d ∷ ds) ≡ digit_value d * 10 ^ length ds + spelled_by ds
number-more d ds = ap (λ (l : ℕ). digit_value d * 10 ^ l + spelled_by ds) (length-map ds digit_value)

pub number-small : (ds : List ℕ) → all_are is_digit ds ≡ true → spelled_by ds < 10 ^ length ds
number-small [] e = rw pow-zero (omega arith)
number-small (d ∷ ds) e =
    let parts = and_parts (is_digit d) (all_are is_digit ds) e in
    let digit = digit-counts d parts.0 in
    let rest = number-small ds parts.1 in
    let first : (digit_value d + 1) * 10 ^ length ds ≤ 10 * 10 ^ length ds = mul-le-mul_right (10 ^ length ds) (omega (arith, digit.0)) in
    subst (λ (n : ℕ). n < 10 ^ suc (length ds)) (sym (number-more d ds)) (omega (arith, pow-suc 10 (length ds), first, rest))

-- ---- so many digits

one-digit : (v : ℕ) → v < 10 → fixed_digits 1 v ≡ (48 + v) ∷ []
unfolding fixed_digits
one-digit v small = let same : v % 10 ≡ v = omega arith in ap (λ (x : ℕ). (48 + x) ∷ []) same

first-digit : (v l r n : ℕ) → n ≡ v * 10 ^ l + r → r < 10 ^ l → v < 10 → fixed_digits (suc l) n ≡ (48 + v) ∷ fixed_digits l r
first-digit v l r n is small digit =
    let count : suc l ≡ 1 + l = omega arith in
    let high : n / 10 ^ l ≡ v = rw is (div-mul-add v (10 ^ l) r small) in
    let low : n % 10 ^ l ≡ r = rw is (mod-mul-add v (10 ^ l) r small) in
    ap (λ (k : ℕ). fixed_digits k n) count
    ∙ fixed_digits-add 1 l n
    ∙ ap (λ (m : ℕ). fixed_digits 1 m ++ fixed_digits l (n % 10 ^ l)) high
    ∙ ap (λ (m : ℕ). fixed_digits 1 v ++ fixed_digits l m) low
    ∙ ap (λ (xs : List ℕ). xs ++ fixed_digits l r) (one-digit v digit)

no-digits : fixed_digits 0 0 ≡ []
unfolding fixed_digits
no-digits = refl

-- they are the last digits of what they spell
pub fixed-spelled : (ds : List ℕ) → all_are is_digit ds ≡ true → fixed_digits (length ds) (spelled_by ds) ≡ ds
fixed-spelled [] e = no-digits
fixed-spelled (d ∷ ds) e =
    let parts = and_parts (is_digit d) (all_are is_digit ds) e in
    let digit = digit-counts d parts.0 in
    first-digit (digit_value d) (length ds) (spelled_by ds) (spelled_by (d ∷ ds)) (number-more d ds) (number-small ds parts.1) digit.0
    ∙ ap (λ (b : ℕ). b ∷ fixed_digits (length ds) (spelled_by ds)) digit.1
    ∙ ap (λ (xs : List ℕ). d ∷ xs) (fixed-spelled ds parts.1)

-- ---- all digits

no-zeros : (k : ℕ) (text ds : List ℕ) → replicate k 48 ++ text ≡ ds → 0 < length text → NoZeros ds → text ≡ ds
no-zeros zero text ds e some first = e
no-zeros (suc k) text ds e some (inl one) =
    let long : length (replicate (suc k) 48 ++ text) ≡ suc k + length text = rw (length-append, length-replicate) refl in
    let same = ap (λ (l : List ℕ). length l) e in
    absurd (omega (arith, long, same, some, one))
no-zeros (suc k) text ds e some (inr other) =
    let same : true ≡ first_is (λ b. b == 48) ds = ap (first_is (λ b. b == 48)) e in
    absurd (cc (same, other))

-- they are the text of what they spell, where a first zero stands alone
pub decimal-spelled : (ds : List ℕ) → 0 < length ds → length ds ≤ 38 → all_are is_digit ds ≡ true → NoZeros ds → decimal (spelled_by ds) ≡ ds
decimal-spelled ds some few e first =
    let small = number-small ds e in
    let most : 10 ^ length ds ≤ 10 ^ 38 = pow-le-pow_right (lit< tt) few in
    let wide : 10 ^ 38 < 10 ^ 64 = lit< tt in
    let fits : spelled_by ds < 10 ^ 64 = omega (arith, small, most, wide) in
    no-zeros (length ds - length (decimal (spelled_by ds))) (decimal (spelled_by ds)) ds
    (fixed_digits-decimal (length ds) (spelled_by ds) some small fits ∙ fixed-spelled ds e) (spells (spelled_by ds) fits).some first

-- ---- digits with a point among them

pointed-parts : (n k whole rest : ℕ) → n ≡ whole * 10 ^ k + rest → rest < 10 ^ k → pointed_text n k ≡ decimal whole ++ (46 ∷ fixed_digits k rest)
pointed-parts n k whole rest is small =
    let high : n / 10 ^ k ≡ whole = rw is (div-mul-add whole (10 ^ k) rest small) in
    let low : n % 10 ^ k ≡ rest = rw is (mod-mul-add whole (10 ^ k) rest small) in
    ap (λ (m : ℕ). decimal m ++ (46 ∷ fixed_digits k n)) high
    ∙ ap (λ (xs : List ℕ). decimal whole ++ (46 ∷ xs)) (sym (fixed_digits-rest k n) ∙ ap (fixed_digits k) low)

-- and so are digits with a point among them
pub pointed-spelled : (xs ys : List ℕ) → 0 < length xs → length xs ≤ 38 → all_are is_digit xs ≡ true → all_are is_digit ys ≡ true → NoZeros xs
    → pointed_text (spelled_by (xs ++ ys)) (length ys) ≡ xs ++ (46 ∷ ys)
pointed-spelled xs ys some few e f first =
    let is : spelled_by (xs ++ ys) ≡ spelled_by xs * 10 ^ length ys + spelled_by ys
    = ap (number 10) (map-append digit_value xs ys) ∙ number-append 10 (map digit_value xs) (map digit_value ys)
    ∙ ap (λ (l : ℕ). spelled_by xs * 10 ^ l + spelled_by ys) (length-map ys digit_value) in
    pointed-parts (spelled_by (xs ++ ys)) (length ys) (spelled_by xs) (spelled_by ys) is (number-small ys f)
    ∙ ap (λ (l : List ℕ). l ++ (46 ∷ fixed_digits (length ys) (spelled_by ys))) (decimal-spelled xs some few e first)
    ∙ ap (λ (l : List ℕ). xs ++ (46 ∷ l)) (fixed-spelled ys f)
