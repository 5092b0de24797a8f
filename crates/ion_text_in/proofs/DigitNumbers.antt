-- What digits spell after a number, and how great it may be.
use Rattle.std.proofs.Common.{◌≡◌, ℕ, ◌+◌, ◌*◌, ◌-◌, ◌^◌, ◌<◌, ◌≤◌, true, List, [], ◌∷◌, ◌++◌, length, take, drop, get_or, refl, sym, ap, ◌∙◌, arith}
use Rattle.std.proofs.Math.Nat.{pow-le-pow_right, pow-suc, mul-le-mul_left, mul-le-mul_right}
use Rattle.std.proofs.lemmas.Nat.{pow-add}
use Rattle.std.proofs.lemmas.Bool.{and_parts}
use Rattle.std.proofs.lemmas.Bool.Decides.{nat_tests}
use Rattle.std.proofs.lemmas.List.{length-drop, take-append-drop, take_all}
use Rattle.ion_value.specs.Digits.{all_are, is_digit}
use Rattle.ion_value.proofs.LeadingDigits.{all_are-append}
use Rattle.ion_text_in.specs.Quick.{number_after}

-- digits after others go on from what these spell
pub after-joined : (n : ℕ) (xs ys : List ℕ) → number_after n (xs ++ ys) ≡ number_after (number_after n xs) ys
after-joined n [] ys = refl
after-joined n (x ∷ xs) ys = after-joined (n * 10 + (x - 48)) xs ys

after-joined-back : (n : ℕ) (xs ys zs : List ℕ) → xs ++ ys ≡ zs → number_after (number_after n xs) ys ≡ number_after n zs
after-joined-back n xs ys zs e = sym (after-joined n xs ys) ∙ ap (number_after n) e

pub after-front : (n k : ℕ) (ds : List ℕ) → number_after (number_after n (take k ds)) (drop k ds) ≡ number_after n ds
after-front n k ds = after-joined-back n (take k ds) (drop k ds) ds (take-append-drop k ds)

pub cut-digits : (k : ℕ) (ds : List ℕ) → all_are is_digit ds ≡ true → (all_are is_digit (take k ds) ≡ true) × (all_are is_digit (drop k ds) ≡ true)
cut-digits k ds e =
    and_parts (all_are is_digit (take k ds)) (all_are is_digit (drop k ds))
    (sym (all_are-append is_digit (take k ds) (drop k ds)) ∙ ap (all_are is_digit) (take-append-drop k ds) ∙ e)

-- ---- how great it may be

digit-less : (b : ℕ) → is_digit b ≡ true → b < 58
digit-less b e = grind (arith, nat_tests)

one-more : (n b p : ℕ) → is_digit b ≡ true → (n * 10 + (b - 48) + 1) * p ≤ (n + 1) * (p * 10)
one-more n b p e =
    let few : n * 10 + (b - 48) + 1 ≤ (n + 1) * 10 = omega (arith, digit-less b e) in
    let more = mul-le-mul_right p few in
    omega (arith, more)

pub below : (n : ℕ) (ds : List ℕ) → all_are is_digit ds ≡ true → number_after n ds + 1 ≤ (n + 1) * 10 ^ length ds
below n [] e = omega arith
below n (d ∷ ds) e =
    let parts = and_parts (is_digit d) (all_are is_digit ds) e in
    let next = below (n * 10 + (d - 48)) ds parts.1 in
    let one = one-more n d (10 ^ length ds) parts.0 in
    let power = pow-suc 10 (length ds) in
    rw power (omega (arith, next, one))

-- ---- how many digits have room

pub narrow-after : (xs : List ℕ) (k : ℕ) → all_are is_digit xs ≡ true → length xs + k ≤ 19 → (number_after 0 xs + 1) * 10 ^ k ≤ 2 ^ 64
narrow-after xs k e few =
    let less : 10 ^ (length xs + k) ≤ 10 ^ 19 = pow-le-pow_right (omega arith) few in
    let more = mul-le-mul_right (10 ^ k) (below 0 xs e) in
    omega (arith, more, rw (pow-add 10 (length xs) k) at less)

-- ---- four digits together

-- the others after them
four-after : (m : ℕ) (ds : List ℕ) → length ds ≤ m → take (m - 4) (drop 4 ds) ≡ drop 4 ds
four-after m ds all = take_all (m - 4) (drop 4 ds) (omega (arith, length-drop 4 ds, all))

-- they and the others spell what all do
pub four-number : (n front back m : ℕ) (ds : List ℕ) → 4 ≤ length ds → length ds ≤ m → front ≡ (get_or ds 0 0 - 48) * 10 + (get_or ds 1 0 - 48) → back ≡ (get_or ds 2 0 - 48) * 10 + (get_or ds 3 0 - 48)
    → number_after (n * 10000 + (front * 100 + back)) (take (m - 4) (drop 4 ds)) ≡ number_after n ds
four-number n front back m ds long all first second =
    rw (four-after m ds all, first, second) (spelled n ds long)
  where
    spelled : (n : ℕ) (ds : List ℕ) → 4 ≤ length ds
        → number_after (n * 10000 + (((get_or ds 0 0 - 48) * 10 + (get_or ds 1 0 - 48)) * 100 + ((get_or ds 2 0 - 48) * 10 + (get_or ds 3 0 - 48)))) (drop 4 ds) ≡ number_after n ds
    spelled n (a ∷ b ∷ c ∷ d ∷ ds) long = ap (λ (k : ℕ). number_after k ds) (omega arith)
    spelled n [] long = absurd (omega (arith, long))
    spelled n (a ∷ []) long = absurd (omega (arith, long))
    spelled n (a ∷ b ∷ []) long = absurd (omega (arith, long))
    spelled n (a ∷ b ∷ c ∷ []) long = absurd (omega (arith, long))

pub four-digits : (m : ℕ) (ds : List ℕ) → length ds ≤ m → all_are is_digit ds ≡ true → all_are is_digit (take (m - 4) (drop 4 ds)) ≡ true
four-digits m ds all e = rw (four-after m ds all) (cut-digits 4 ds e).1

-- room for digits is room for the first four
pub four-room : (n most : ℕ) (ds : List ℕ) → 4 ≤ length ds → (n + 1) * 10 ^ length ds ≤ most → n * 10000 + 10000 ≤ most
four-room n most ds long room =
    let less : 10 ^ 4 ≤ 10 ^ length ds = pow-le-pow_right (omega arith) long in
    let more = mul-le-mul_left (n + 1) less in
    omega (arith, more, room)

-- and, after them, for the others
pub room-after : (n v m most : ℕ) (ds : List ℕ) → 4 ≤ length ds → length ds ≤ m → v < 10000 → (n + 1) * 10 ^ length ds ≤ most → (n * 10000 + v + 1) * 10 ^ length (take (m - 4) (drop 4 ds)) ≤ most
room-after n v m most ds long all small room =
    let rest : ℕ = length (drop 4 ds) in
    let count : length ds ≡ 4 + rest = omega (arith, length-drop 4 ds, long) in
    let power : 10 ^ length ds ≡ 10000 * 10 ^ rest = rw count (pow-add 10 4 rest) in
    let less : n * 10000 + v + 1 ≤ (n + 1) * 10000 = omega (arith, small) in
    let more = mul-le-mul_right (10 ^ rest) less in
    rw (four-after m ds all) (omega (arith, more, rw power at room))
