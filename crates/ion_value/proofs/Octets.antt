-- Laws of digits in a base, and of the fewest octets of a number: what they spell, and that no others as short spell it.
use Rattle.std.proofs.Common.{◌≡◌, ℕ, zero, suc, ◌+◌, ◌-◌, ◌*◌, ◌/◌, ◌%◌, ◌^◌, ◌<◌, ◌≤◌, inl, inr, Bool, true, false, leb, ltb, if◌then◌else◌, List, [], ◌∷◌, ◌++◌, length, get_or, refl, sym, ap, ◌∙◌, arith, zero-add, length-append}
use Rattle.std.specs.List.{All}
use Rattle.std.proofs.lemmas.Bool.{false≢true, cases_lt, lt-leb, le-leb, lt-ltb, le-ltb}
use Rattle.std.proofs.lemmas.List.Elements.{All-get_or, All-from_get_or}
use Rattle.std.proofs.lemmas.Nat.{div-add-mod', same_from_place, mod_below, mod-mul-add, shl_whole}
use Rattle.std.proofs.Math.Nat.{pow-zero, pow-suc, pow-le-pow_right, mul-le-mul_left, mul-le-mul_right, mod-eq_of_lt}
use Rattle.ion_value.specs.Number.{number, digits_within, digits_in, with_sign, uint_octets}
use Rattle.ion_value.proofs.Numbers.{number-append_one, number-lt, number-ge}
use Rattle.ion_value.proofs.Fields.{ShortestUInt, pow-256}

-- all digits are below the base
abbrev pub Below : ℕ → List ℕ → Type 0
Below base [] = Unit {0}
Below base (d ∷ ds) = (d < base) × Below base ds

-- the same at each index, and as `All` says it
pub Below-get_or : (base : ℕ) (ds : List ℕ) → Below base ds → (k : ℕ) → k < length ds → get_or ds k 0 < base
Below-get_or base [] h k lt = absurd (omega arith)
Below-get_or base (d ∷ ds) h zero lt = h.0
Below-get_or base (d ∷ ds) h (suc k) lt = Below-get_or base ds h.1 k (omega arith)

pub Below-from : (base : ℕ) (ds : List ℕ) → ((k : ℕ) → k < length ds → get_or ds k 0 < base) → Below base ds
Below-from base [] h = tt
Below-from base (d ∷ ds) h = (h 0 (omega arith), Below-from base ds (λ k lt. h (suc k) (omega arith)))

pub Below-All : (base : ℕ) (ds : List ℕ) → All (λ d. d < base) ds → Below base ds
Below-All base ds h = Below-from base ds (λ k lt. All-get_or (λ d. d < base) ds k 0 lt h)

pub All-Below : (base : ℕ) (ds : List ℕ) → Below base ds → All (λ d. d < base) ds
All-Below base ds h = All-from_get_or (λ d. d < base) ds 0 (Below-get_or base ds h)

pub Below-append : (base : ℕ) (xs ys : List ℕ) → Below base xs → Below base ys → Below base (xs ++ ys)
Below-append base [] ys h g = g
Below-append base (x ∷ xs) ys h g = (h.0, Below-append base xs ys h.1 g)

-- one digit more
Below-push : (base : ℕ) (ds : List ℕ) (d : ℕ) → Below base ds → d < base → Below base (ds ++ d ∷ [])
Below-push base [] d h small = (small, tt)
Below-push base (e ∷ ds) d h small = (h.0, Below-push base ds d h.1 small)

-- octets without the high bit, and one after them
pub octets-push : (ds : List ℕ) (d : ℕ) → ((k : ℕ) → k < length ds → get_or ds k 0 < 128) → d < 256 → All (λ octet. octet < 256) (ds ++ d ∷ [])
octets-push ds d low small =
    All-Below 256 (ds ++ d ∷ []) (Below-push 256 ds d (Below-from 256 ds (λ k lt. omega (arith, low k lt))) small)

-- such digits spell less than the base to their number
pub number-below : (base : ℕ) (ds : List ℕ) → Below base ds → number base ds < base ^ length ds
number-below base ds h = number-lt base ds (Below-get_or base ds h)

-- as many digits that spell the same number are the same digits
pub number-same : (base : ℕ) (xs ys : List ℕ) → length xs ≡ length ys → Below base xs → Below base ys → number base xs ≡ number base ys → xs ≡ ys
number-same base [] [] len hx hy e = refl
number-same base [] (y ∷ ys) len hx hy e = absurd (omega arith)
number-same base (x ∷ xs) [] len hx hy e = absurd (omega arith)
number-same base (x ∷ xs) (y ∷ ys) len hx hy e =
    let long : length xs ≡ length ys = omega arith in
    let power : base ^ length xs ≡ base ^ length ys = ap (λ k. base ^ k) long in
    let small : number base ys < base ^ length xs = rw power (number-below base ys hy.1) in
    let same : x * base ^ length xs + number base xs ≡ y * base ^ length xs + number base ys = e ∙ rw power refl in
    let parts = same_from_place x (number base xs) y (number base ys) (base ^ length xs) (number-below base xs hx.1) small same in
    let rest : xs ≡ ys = number-same base xs ys long hx.1 hy.1 parts.1 in
    cc

-- the digits of a number, of which the first is not zero: the number is no less than any power with fewer zeros than there are digits
pub record Digits (base n : ℕ) (ds : List ℕ) : Type 0 where
  pub value : number base ds ≡ n
  pub below : Below base ds
  pub least : (k : ℕ) → k < length ds → base ^ k ≤ n

-- no list of digits that can spell the number has fewer
pub Digits-fewest : (base n : ℕ) (ds ys : List ℕ) → Digits base n ds → n < base ^ length ys → length ds ≤ length ys
Digits-fewest base n ds ys h small =
    elim (cases_lt (length ys) (length ds)) [
      | inl less ↦ absurd (omega (arith, h.least (length ys) less))
      | inr more ↦ more
    ]

-- the bound with one digit more
Digits-push_least : (base n : ℕ) (ds : List ℕ) → 0 < base → suc n / base * base + suc n % base ≡ suc n → ((k : ℕ) → k < length ds → base ^ k ≤ suc n / base)
    → (k : ℕ) → k < length ds + 1 → base ^ k ≤ suc n
Digits-push_least base n ds some split least zero lt = rw pow-zero (omega arith)
Digits-push_least base n ds some split least (suc k) lt =
    let before : base ^ k ≤ suc n / base = least k (omega arith) in
    let times : base ^ k * base ≤ suc n / base * base = mul-le-mul_right base before in
    omega (arith, pow-suc base k)

-- a quotient is less than what it is of
quotient-le : (base n k : ℕ) → 2 ≤ base → suc n ≤ suc k → suc n / base ≤ k
quotient-le base n k two h =
    let split : suc n / base * base + suc n % base ≡ suc n = div-add-mod' (suc n) base in
    let twice : suc n / base * 2 ≤ suc n / base * base = mul-le-mul_left (suc n / base) two in
    omega arith

-- one digit more after those of the quotient
Digits-push : (base n : ℕ) (ds : List ℕ) → 2 ≤ base → Digits base (suc n / base) ds → Digits base (suc n) (ds ++ (suc n % base) ∷ [])
Digits-push base n ds two rest =
    let split : suc n / base * base + suc n % base ≡ suc n = div-add-mod' (suc n) base in
    let digit : suc n % base < base = mod_below (suc n) base (omega arith) in
    let value : number base ds ≡ suc n / base = rest.value in
    record {
      value = number-append_one base ds (suc n % base) ∙ rw value split;
      below = Below-push base ds (suc n % base) rest.below digit;
      least = λ k lt. Digits-push_least base n ds (omega arith) split rest.least k (rw length-append at lt);
    }

-- the digits of the definition are those of the number
digits_within-Digits : (k base n : ℕ) → 2 ≤ base → n ≤ k → Digits base n (digits_within k base n)
unfolding digits_within
digits_within-Digits zero base zero two h = record { value = refl; below = tt; least = λ k lt. absurd (omega arith) }
digits_within-Digits zero base (suc n) two h = absurd (omega arith)
digits_within-Digits (suc k) base zero two h = record { value = refl; below = tt; least = λ k lt. absurd (omega arith) }
digits_within-Digits (suc k) base (suc n) two h =
    Digits-push base n (digits_within k base (suc n / base)) two (digits_within-Digits k base (suc n / base) two (quotient-le base n k two h))

pub digits_in-Digits : (base n : ℕ) → 2 ≤ base → Digits base n (digits_in base n)
digits_in-Digits base n two = digits_within-Digits n base n two (omega arith)

-- the fewest octets that spell a number are those of the definition
pub uint-spelled : (n : ℕ) (xs : List ℕ) → ShortestUInt n xs → xs ≡ uint_octets n
uint-spelled n xs h =
    let digits = digits_in-Digits 256 n (omega arith) in
    let below : Below 256 xs = Below-All 256 xs h.octets in
    let small : n < 256 ^ length xs = rw (← h.value) (number-below 256 xs below) in
    let less = Digits-fewest 256 n (uint_octets n) xs digits small in
    let more = h.shortest (uint_octets n) (All-Below 256 (uint_octets n) digits.below) digits.value in
    number-same 256 xs (uint_octets n) (omega arith) below digits.below (h.value ∙ sym digits.value)

-- seven bits before at most fifteen octets, as a shift places them
pub high-value : (high k : ℕ) → high < 128 → k ≤ 15 → high * 2 ^ (8 * k) % 2 ^ 128 ≡ high * 256 ^ k
high-value high k small few = shl_whole high 7 (8 * k) 128 small (omega arith) ∙ rw (pow-256 k) refl

-- they stay within 128 bits
pub high-fits : (high : ℕ) (ds : List ℕ) → high < 128 → length ds ≤ 15 → ((k : ℕ) → k < length ds → get_or ds k 0 < 256) → number 256 (high ∷ ds) < 2 ^ 128
high-fits high ds small few octets =
    let rest : number 256 ds < 256 ^ length ds = number-lt 256 ds octets in
    let whole : suc high * 256 ^ length ds ≤ 128 * 256 ^ length ds = mul-le-mul_right (256 ^ length ds) small in
    let powers : 256 ^ length ds ≤ 256 ^ 15 = pow-le-pow_right {n = 256} (omega arith) few in
    omega arith

-- before sixteen octets or more a bit of them does not fit
pub high-large : (high : ℕ) (ds : List ℕ) → 0 < high → 15 < length ds → 2 ^ 128 ≤ number 256 (high ∷ ds)
high-large high ds some long = number-ge 256 (high ∷ ds) 16 (omega arith) some (omega arith)

-- ---- digits with a sign in the high bit of the first

-- the high bit of the first digit is the sign, its other bits and the rest of the digits spell the number, and no fewer digits have room for both
pub record Signing (base bit : ℕ) (negative : Bool) (n : ℕ) (s : List ℕ) : Type 0 where
  pub first : ℕ
  pub rest : List ℕ
  pub is : s ≡ first ∷ rest
  pub sign : leb bit first ≡ negative
  pub magnitude : number base (first % bit ∷ rest) ≡ n
  pub below : first < base
  pub rest_below : Below base rest
  pub least : base ^ length rest ≤ 2 * n + 1

-- what is left of a digit without its high bit
low-set : (bit d : ℕ) → d < bit → (d + bit) % bit ≡ d
low-set bit d small = let e : d + bit ≡ 1 * bit + d = omega arith in rw e (mod-mul-add 1 bit d small)

-- digits with the same high bit and the same other bits are the same
pub low-same : (bit x y : ℕ) → x < 2 * bit → y < 2 * bit → x % bit ≡ y % bit → leb bit x ≡ leb bit y → x ≡ y
low-same bit x y hx hy bits signs =
    elim (cases_lt x bit) [
      | inl low ↦ elim (cases_lt y bit) [
        | inl low' ↦ omega (arith, mod-eq_of_lt low, mod-eq_of_lt low')
        | inr high' ↦ absurd (false≢true (sym (lt-leb bit x low) ∙ signs ∙ le-leb bit y high'))
      ]
      | inr high ↦ elim (cases_lt y bit) [
        | inl low' ↦ absurd (false≢true (sym (lt-leb bit y low') ∙ sym signs ∙ le-leb bit x high))
        | inr high' ↦
            let lx : x - bit < bit = omega arith in
            let ly : y - bit < bit = omega arith in
            let ex : x - bit + bit ≡ x = omega arith in
            let ey : y - bit + bit ≡ y = omega arith in
            let same : x - bit ≡ y - bit = sym (low-set bit (x - bit) lx) ∙ rw (ex, ey) bits ∙ low-set bit (y - bit) ly in
            omega arith
      ]
    ]

-- a sign in a digit of its own
Signing-alone : (base bit n : ℕ) (negative : Bool) (ds : List ℕ) → 0 < bit → base ≡ 2 * bit → number base ds ≡ n → Below base ds → base ^ length ds ≤ 2 * n + 1
    → Signing base bit negative n ((if negative then bit else 0) ∷ ds)
Signing-alone base bit n true ds some twice value below least = record {
  first = bit;
  rest = ds;
  is = refl;
  sign = le-leb bit bit (omega arith);
  magnitude = let e : bit % bit ≡ 0 = rw zero-add at (low-set bit 0 some) in rw e (omega arith);
  below = omega arith;
  rest_below = below;
  least = least;
}
Signing-alone base bit n false ds some twice value below least = record {
  first = 0;
  rest = ds;
  is = refl;
  sign = lt-leb bit 0 some;
  magnitude = let e : 0 % bit ≡ 0 = mod-eq_of_lt some in rw e (omega arith);
  below = omega arith;
  rest_below = below;
  least = least;
}

-- a sign in the first digit
Signing-within : (base bit n d : ℕ) (negative : Bool) (ds : List ℕ) → 0 < bit → base ≡ 2 * bit → d < bit → number base (d ∷ ds) ≡ n → Below base ds → base ^ length ds ≤ 2 * n + 1
    → Signing base bit negative n ((if negative then d + bit else d) ∷ ds)
Signing-within base bit n d true ds some twice small value below least = record {
  first = d + bit;
  rest = ds;
  is = refl;
  sign = le-leb bit (d + bit) (omega arith);
  magnitude = let e : (d + bit) % bit ≡ d = low-set bit d small in rw e value;
  below = omega arith;
  rest_below = below;
  least = least;
}
Signing-within base bit n d false ds some twice small value below least = record {
  first = d;
  rest = ds;
  is = refl;
  sign = lt-leb bit d small;
  magnitude = let e : d % bit ≡ d = mod-eq_of_lt small in rw e value;
  below = omega arith;
  rest_below = below;
  least = least;
}

-- the digits of a number with a sign, as the definition makes them
pub with_sign-Signing : (base bit n : ℕ) (negative : Bool) (ds : List ℕ) → 0 < bit → base ≡ 2 * bit → Digits base n ds → Signing base bit negative n (with_sign bit negative ds)
with_sign-Signing base bit n negative [] some twice h = Signing-alone base bit n negative [] some twice h.value tt (rw pow-zero (omega arith))
with_sign-Signing base bit n negative (d ∷ ds) some twice h =
    let value : d * base ^ length ds + number base ds ≡ n = h.value in
    elim (cases_lt d bit) [
      | inl small ↦
          let e : ltb d bit ≡ true = lt-ltb d bit small in
          let least : base ^ length ds ≤ n = h.least (length ds) (omega arith) in
          rw e (Signing-within base bit n d negative ds some twice small value h.below.1 (omega arith))
      | inr large ↦
          let e : ltb d bit ≡ false = le-ltb d bit large in
          let whole : bit * base ^ length ds ≤ d * base ^ length ds = mul-le-mul_right (base ^ length ds) large in
          let power : base * base ^ length ds ≡ 2 * (bit * base ^ length ds) = rw twice (omega arith) in
          rw e (Signing-alone base bit n negative (d ∷ ds) some twice h.value h.below (omega (arith, pow-suc base (length ds))))
    ]

-- no fewer digits have room for the sign and the number
pub Signing-fewest : (base bit n d : ℕ) (negative : Bool) (s ds : List ℕ) → 0 < bit → base ≡ 2 * bit → Signing base bit negative n s → Below base ds → number base (d % bit ∷ ds) ≡ n
    → length s ≤ suc (length ds)
Signing-fewest base bit n d negative s ds some twice h below value =
    let first : suc (d % bit) ≤ bit = omega arith in
    let rest : number base ds < base ^ length ds = number-below base ds below in
    let whole : suc (d % bit) * base ^ length ds ≤ bit * base ^ length ds = mul-le-mul_right (base ^ length ds) first in
    let power : base * base ^ length ds ≡ 2 * (bit * base ^ length ds) = rw twice (omega arith) in
    let long : length s ≡ suc (length h.rest) = ap length h.is in
    elim (cases_lt (length ds) (length h.rest)) [
      | inl less ↦
          let powers : base ^ suc (length ds) ≤ base ^ length h.rest = pow-le-pow_right (omega arith) less in
          absurd (omega (arith, h.least, pow-suc base (length ds)))
      | inr more ↦ omega arith
    ]
