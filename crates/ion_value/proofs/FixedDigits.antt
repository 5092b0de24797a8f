-- Laws of so many decimal digits of a number.
use Rattle.std.proofs.Common.{◌≡◌, ℕ, zero, suc, ◌+◌, ◌-◌, ◌*◌, ◌/◌, ◌%◌, ◌^◌, ◌<◌, ◌≤◌, List, [], ◌∷◌, ◌++◌, length, replicate, refl, sym, ap, ◌∙◌, arith, length-append, append_assoc, lit<, inl, inr, Fits, w64}
use Rattle.std.proofs.lemmas.Bool.{cases_lt}
use Rattle.std.specs.Fmt.{decimal}
use Rattle.std.proofs.lemmas.Fmt.{decimal_by_steps_wide, length-decimal-le}
use Rattle.std.proofs.lemmas.List.{append-nil}
use Rattle.std.proofs.lemmas.Nat.{div-mul-add, mod-mul-add, pow-add}
use Rattle.std.proofs.Math.Nat.{pow-zero, pow-suc, pow-le-pow_right, div-div-eq-div-mul, div-lt_iff_lt-mul}
use Rattle.std.proofs.Math.Arith.{mod-mul}
use Rattle.ion_value.specs.Digits.{fixed_digits}

pub fixed_digits-two : (n : ℕ) → n < 100 → fixed_digits 2 n ≡ (48 + n / 10) ∷ (48 + n % 10) ∷ []
unfolding fixed_digits
fixed_digits-two n small =
    let tens : n / 10 % 10 ≡ n / 10 = omega arith in
    rw tens refl

pub fixed_digits-four : (n : ℕ) → fixed_digits 4 n ≡ fixed_digits 2 (n / 100) ++ fixed_digits 2 (n % 100)
unfolding fixed_digits
fixed_digits-four n =
    let a : n / 10 / 10 / 10 % 10 ≡ n / 100 / 10 % 10 = omega arith in
    let b : n / 10 / 10 % 10 ≡ n / 100 % 10 = omega arith in
    let c : n / 10 % 10 ≡ n % 100 / 10 % 10 = omega arith in
    let d : n % 10 ≡ n % 100 % 10 = omega arith in
    rw (a, b, c, d) refl

pub length-fixed_digits : (count n : ℕ) → length (fixed_digits count n) ≡ count
unfolding fixed_digits
length-fixed_digits zero n = refl
length-fixed_digits (suc count) n = rw (length-append, length-fixed_digits count (n / 10)) (omega arith)

-- the digits of zero
replicate-end : (k x : ℕ) → replicate (suc k) x ≡ replicate k x ++ x ∷ []
replicate-end zero x = refl
replicate-end (suc k) x = ap (λ xs. x ∷ xs) (replicate-end k x)

fixed_digits-zero : (count : ℕ) → fixed_digits count 0 ≡ replicate count 48
unfolding fixed_digits
fixed_digits-zero zero = refl
fixed_digits-zero (suc count) = rw (fixed_digits-zero count) (sym (replicate-end count 48))

-- decimal digits with zeros in front
abbrev IsPadded : ℕ → List ℕ → Type 0
IsPadded n ds = (count : ℕ) → 1 ≤ count → n < 10 ^ count → replicate (count - length ds) 48 ++ ds ≡ fixed_digits count n

padded-one : (n : ℕ) → n < 10 → IsPadded n ((48 + n) ∷ [])
unfolding fixed_digits
padded-one n small zero some fits = absurd (omega arith)
padded-one n small (suc count) some fits =
    let zeros : suc count - 1 ≡ count = omega arith in
    let prefix : n / 10 ≡ 0 = omega arith in
    let last : n % 10 ≡ n = omega arith in
    rw (zeros, prefix, last, fixed_digits-zero count) refl

padded-more : (n : ℕ) (ds : List ℕ) → 10 ≤ n → IsPadded (n / 10) ds → IsPadded n (ds ++ (48 + n % 10) ∷ [])
unfolding fixed_digits
padded-more n ds large so_far zero some fits = absurd (omega arith)
padded-more n ds large so_far (suc zero) some fits = absurd (omega arith)
padded-more n ds large so_far (suc (suc count)) some fits =
    let power = pow-suc 10 (suc count) in
    let small : n / 10 < 10 ^ suc count = omega arith in
    let zeros : suc (suc count) - length (ds ++ (48 + n % 10) ∷ []) ≡ suc count - length ds = rw length-append (omega arith) in
    rw zeros (sym (append_assoc (replicate (suc count - length ds) 48) ds ((48 + n % 10) ∷ [])) ∙ ap (λ xs. xs ++ (48 + n % 10) ∷ []) (so_far (suc count) (omega arith) small))

pub fixed_digits-decimal : (count n : ℕ) → 1 ≤ count → n < 10 ^ count → n < 10 ^ 64 → replicate (count - length (decimal n)) 48 ++ decimal n ≡ fixed_digits count n
fixed_digits-decimal count n some fits small = decimal_by_steps_wide IsPadded padded-one padded-more n small count some fits

-- zeros that were written before the digits
pub zeros-none : (xs : List ℕ) (k x : ℕ) → xs ≡ xs ++ replicate (k - k) x
zeros-none xs k x =
    let none : k - k ≡ 0 = omega arith in
    rw none (sym (append-nil xs))

pub decimal-within : (count n : ℕ) (ds : List ℕ) → ds ≡ decimal n → 1 ≤ count → n < 10 ^ count → n < 2 ^ 64 → length ds ≤ count
decimal-within count n ds e some fits small = rw e (length-decimal-le count n some fits small)

pub padded-written : (count n k : ℕ) (ds xs zs : List ℕ) → zs ≡ (xs ++ replicate (k - length ds) 48) ++ ds → k ≡ count → ds ≡ decimal n → 1 ≤ count → n < 10 ^ count → n < 2 ^ 64
    → zs ≡ xs ++ fixed_digits count n
padded-written count n k ds xs zs e all is some fits small =
    let powers : 2 ^ 64 < 10 ^ 64 = lit< tt in
    let wide : n < 10 ^ 64 = omega arith in
    e ∙ append_assoc xs (replicate (k - length ds) 48) ds ∙ ap (λ ys. xs ++ ys) (rw (all, is) (fixed_digits-decimal count n some fits wide))

pub pow-pos : (b : ℕ) → 0 < 10 ^ b
pow-pos zero = rw pow-zero (omega arith)
pow-pos (suc b) = omega (arith, pow-suc 10 b, pow-pos b)

-- the digits in two parts
pub fixed_digits-add : (a b n : ℕ) → fixed_digits (a + b) n ≡ fixed_digits a (n / 10 ^ b) ++ fixed_digits b (n % 10 ^ b)
unfolding fixed_digits
fixed_digits-add a zero n =
    let none : a + 0 ≡ a = omega arith in
    let whole : n / 10 ^ 0 ≡ n = rw pow-zero (omega arith) in
    rw (none, whole) (sym (append-nil (fixed_digits a n)))
fixed_digits-add a (suc b) n =
    let more : a + suc b ≡ suc (a + b) = omega arith in
    let power : 10 ^ suc b ≡ 10 ^ b * 10 = pow-suc 10 b ∙ omega arith in
    let some : 0 < 10 ^ b = pow-pos b in
    let rest : n % 10 ^ suc b ≡ n / 10 % 10 ^ b * 10 + n % 10 = rw power (mod-mul n some (omega arith)) in
    let prefix : n / 10 / 10 ^ b ≡ n / 10 ^ suc b = div-div-eq-div-mul n 10 (10 ^ b) ∙ ap (λ k. n / k) (omega arith) in
    let tens : n % 10 ^ suc b / 10 ≡ n / 10 % 10 ^ b = rw rest (div-mul-add (n / 10 % 10 ^ b) 10 (n % 10) (omega arith)) in
    let ones : n % 10 ^ suc b % 10 ≡ n % 10 = rw rest (mod-mul-add (n / 10 % 10 ^ b) 10 (n % 10) (omega arith)) in
    rw more (
    ap (λ xs. xs ++ (48 + n % 10) ∷ []) (fixed_digits-add a b (n / 10))
    ∙ append_assoc (fixed_digits a (n / 10 / 10 ^ b)) (fixed_digits b (n / 10 % 10 ^ b)) ((48 + n % 10) ∷ [])
    ∙ rw (prefix, tens, ones) refl
    )

-- ---- a fraction past 19 digits

large-count : (count f : ℕ) → 10 ^ 19 ≤ f → f < 10 ^ count → 19 < count
large-count count f large fits =
    elim (cases_lt 19 count) [
      | inl more ↦ more
      | inr few ↦
          let powers : 10 ^ count ≤ 10 ^ 19 = pow-le-pow_right (lit< tt) few in
          absurd (omega arith)
    ]

split-power : (count : ℕ) → 19 < count → 10 ^ count ≡ 10 ^ (count - 19) * 10 ^ 19
split-power count more =
    let whole : count ≡ count - 19 + 19 = omega arith in
    ap (λ k. 10 ^ k) whole ∙ pow-add 10 (count - 19) 19

pub high-digits : (count f : ℕ) → 10 ^ 19 ≤ f → f < 10 ^ count → f / 10 ^ 19 < 10 ^ (count - 19)
high-digits count f large fits =
    let more = large-count count f large fits in
    let small : f < 10 ^ (count - 19) * 10 ^ 19 = rw (← split-power count more) fits in
    (div-lt_iff_lt-mul (lit< tt)).1 small

pub high-fits : (count f : ℕ) → 10 ^ 19 ≤ f → f < 10 ^ count → count ≤ 38 → Fits w64 (f / 10 ^ 19)
high-fits count f large fits few =
    let half : count - 19 ≤ 19 = omega arith in
    let powers : 10 ^ (count - 19) ≤ 10 ^ 19 = pow-le-pow_right (lit< tt) half in
    let wide : 10 ^ 19 < 2 ^ 64 = lit< tt in
    let small = high-digits count f large fits in
    omega arith

pub high-low : (count f : ℕ) (xs ys zs : List ℕ) → 10 ^ 19 ≤ f → f < 10 ^ count → ys ≡ xs ++ fixed_digits (count - 19) (f / 10 ^ 19)
    → zs ≡ ys ++ fixed_digits 19 (f % 10 ^ 19) → zs ≡ xs ++ fixed_digits count f
high-low count f xs ys zs large fits high low =
    let more = large-count count f large fits in
    let whole : count - 19 + 19 ≡ count = omega arith in
    let parts = ap (λ k. fixed_digits k f) (sym whole) ∙ fixed_digits-add (count - 19) 19 f in
    low ∙ ap (λ ws. ws ++ fixed_digits 19 (f % 10 ^ 19)) high
    ∙ append_assoc xs (fixed_digits (count - 19) (f / 10 ^ 19)) (fixed_digits 19 (f % 10 ^ 19))
    ∙ ap (λ ws. xs ++ ws) (sym parts)
