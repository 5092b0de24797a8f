-- A decimal with no more digits than the shortest, in a lower row, is farther from the double.
use Rattle.std.proofs.Common.{◌≡◌, ℕ, zero, suc, ◌+◌, ◌-◌, ◌*◌, ◌^◌, ◌<◌, ◌≤◌, Bool, true, false, not, ◌&&◌, ◌||◌, ◌==◌, refl, sym, ap, ◌∙◌, subst, inl, inr, arith, mul-le-mul_right, mul-le-mul, pow-add, le_trans, le_of_lt, eq-zero-or-pos, lit<}
use mathlib.Core.Bool.{true≢false}
use Rattle.std.proofs.lemmas.Bool.{cases_lt, and_parts, eqb-true, eq-eqb, ne_eqb}
use Rattle.std.specs.Prelude.{from_bits}
use Rattle.core.specs.Int.{abs_diff}
use native.Mathlib.Nat.{pow-le-pow_right}
use lib.Ieee.{binary64, round, to_bits, of_bits}
use lib.Ieee.Bits.{to_bits-of_bits}
use lib.Ieee.Positive.{num, den}
use Rattle.ion_value.specs.Shortest.{IsAboveZero, IsPositive, reads, reads_as, search, shortest}
use Rattle.ion_float.specs.Laws.{distance, HasNoMoreDigits}
use Rattle.ion_float.proofs.Between.{positive-number, zero-reads}
use Rattle.ion_float.proofs.Ends.{row_within}
use Rattle.ion_float.proofs.FewDigits.{few-digits}
use Rattle.ion_float.proofs.Fewest.{none_greater}
use Rattle.ion_float.proofs.Nearest.{between}
use Rattle.ion_float.proofs.Reading.{is-positive, shortest_reads}

-- ---- the only double as which 9 of a row and 1 of the next read

bits_of : ℕ → ℕ → ℕ
bits_of digits row = to_bits binary64 (round binary64 false (digits * 10 ^ (row - 342)) (10 ^ (342 - row)))

bits_are : (bits digits row : ℕ) → IsAboveZero bits → reads digits row bits → bits_of digits row ≡ bits
unfolding bits_of
bits_are bits digits row p read =
    ap (λ x. to_bits binary64 x) read ∙ to_bits-of_bits binary64 bits (omega (arith, p.1)) (positive-number _ (is-positive bits p))

-- whether in each row below n they read as different doubles, or as zero, but in row 18
apart : ℕ → Bool
unfolding bits_of
apart zero = true
apart (suc r) = (not (bits_of 9 r == bits_of 1 (r + 1)) || (r == 18 || bits_of 9 r == 0)) && apart r

all_apart : apart 650 ≡ true
unfolding apart bits_of round to_bits
all_apart = refl

apart-at : (n row : ℕ) → apart n ≡ true → row < n → bits_of 9 row ≡ bits_of 1 (row + 1) → 0 < bits_of 9 row → row ≡ 18
unfolding apart
apart-at zero row h l same some = absurd (omega arith)
apart-at (suc n) row h l same some =
    let both = and_parts (not (bits_of 9 n == bits_of 1 (n + 1)) || (n == 18 || bits_of 9 n == 0)) (apart n) h in
    elim (cases_lt row n) [
      | inl m ↦ apart-at n row both.1 m same some
      | inr g ↦
          let e : row ≡ n = omega arith in
          let is = subst (λ k. bits_of 9 k ≡ bits_of 1 (k + 1)) e same in
          let more = subst (λ k. 0 < bits_of 9 k) e some in
          e ∙ eqb-true n 18 (only (bits_of 9 n == bits_of 1 (n + 1)) (n == 18) (bits_of 9 n == 0) both.0 (eq-eqb (bits_of 9 n) (bits_of 1 (n + 1)) is) (ne_eqb (bits_of 9 n) 0 (λ z. absurd (omega (arith, more, z)))))
    ]
  where
    only : (a b c : Bool) → (not a || (b || c)) ≡ true → a ≡ true → c ≡ false → b ≡ true
    only true true c h e f = refl
    only true false true h e f = absurd (true≢false f)
    only true false false h e f = absurd (true≢false (sym h))
    only false b c h e f = absurd (true≢false (sym e))

both_read : (bits row : ℕ) → IsAboveZero bits → row < 650 → reads 9 row bits → reads 1 (row + 1) bits → (row ≡ 18) × (bits ≡ 2)
unfolding bits_of round to_bits
both_read bits row p l nine ten =
    let a = bits_are bits 9 row p nine in
    let b = bits_are bits 1 (row + 1) p ten in
    let e = apart-at 650 row all_apart l (a ∙ sym b) (omega (arith, a, p.0)) in
    (e, sym a ∙ ap (bits_of 9) e)

-- ---- digits

-- a number from 10 on has a power of ten below it, and is below the next but one
leading : (n d : ℕ) → 10 ≤ d → d < 10 ^ n → (e : ℕ) × (10 ^ suc e ≤ d) × (d < 10 ^ suc (suc e))
leading zero d h l = absurd (omega arith)
leading (suc zero) d h l = absurd (omega arith)
leading (suc (suc e)) d h l =
    elim (cases_lt d (10 ^ suc e)) [
      | inl m ↦ leading (suc e) d h m
      | inr g ↦ (e, g, l)
    ]

-- ---- at that double

two_is : shortest 2 ≡ (1, 19)
unfolding shortest search reads_as round to_bits of_bits
two_is = refl

two_num : num (from_bits binary64 2) ≡ 1
unfolding of_bits
two_num = refl

two_den : den (from_bits binary64 2) ≡ 2 ^ 1073
unfolding of_bits
two_den = refl

at_two : (value : ℕ) → value ≤ 9 * 10 ^ 18
    → distance (shortest 2).0 (shortest 2).1 2 < abs_diff (value * den (from_bits binary64 2)) (num (from_bits binary64 2) * 10 ^ 342)
at_two value h =
    rw (two_is, two_num, two_den) (omega (arith, h))

-- ---- lower rows

module _ (bits other power : ℕ) (p : IsAboveZero bits) (lower : power < (shortest bits).1) (also : reads other power bits) (few : HasNoMoreDigits other (shortest bits).0) where
  abbrev digits : ℕ
  digits = (shortest bits).0

  abbrev row : ℕ
  row = (shortest bits).1

  pos : IsPositive bits
  pos = is-positive bits p

  read : reads digits row bits
  read = shortest_reads bits p.1 pos

  -- the shortest has one digit, since of more the first would read, at a greater power
  one_digit : digits < 10
  one_digit =
      elim (cases_lt digits 10) [
        | inl l ↦ l
        | inr g ↦
            let it = leading 17 digits g (few-digits bits p) in
            let e = it.0 in
            absurd (none_greater bits (row + 1) (10 ^ e) p (omega arith)
            (between bits other power (10 ^ e) (row + 1) digits row pos (under e (few (suc (suc e)) it.2)) (over e it.1) also read))
      ]
    where
      under : (e : ℕ) → other < 10 ^ suc (suc e) → other * 10 ^ power ≤ 10 ^ e * 10 ^ (row + 1)
      under e l =
          subst (λ z. other * 10 ^ power ≤ z) (pow-add 10 e (row + 1))
          (le_trans (mul-le-mul_right (10 ^ power) (le_of_lt l))
          (subst (λ z. z ≤ 10 ^ (e + (row + 1))) (pow-add 10 (suc (suc e)) power) (pow-le-pow_right (lit< tt) (omega (arith, lower)))))

      over : (e : ℕ) → 10 ^ suc e ≤ digits → 10 ^ e * 10 ^ (row + 1) ≤ digits * 10 ^ row
      over e l =
          let sum : suc e + row ≡ e + (row + 1) = omega arith in
          subst (λ z. z ≤ digits * 10 ^ row) (sym (pow-add 10 (suc e) row) ∙ ap (λ k. 10 ^ k) sum ∙ pow-add 10 e (row + 1)) (mul-le-mul_right (10 ^ row) l)

  some_digit : 1 ≤ digits
  some_digit =
      elim (eq-zero-or-pos digits) [
        | inl z ↦ absurd (zero-reads row bits pos (subst (λ d. reads d row bits) z read))
        | inr l ↦ l
      ]

  abbrev below : ℕ
  below = row - 1

  next : below + 1 ≡ row
  next = omega (arith, lower)

  lower_value : other * 10 ^ power ≤ 9 * 10 ^ below
  lower_value =
      let most : other ≤ 9 = omega (arith, few 1 one_digit) in
      mul-le-mul most (pow-le-pow_right (lit< tt) (omega (arith, lower)))

  tenfold : 10 * 10 ^ below ≡ 1 * 10 ^ row
  tenfold = subst (λ k. 10 * 10 ^ below ≡ 1 * 10 ^ k) next (omega (arith, pow-add 10 below 1))

  ten_read : reads 1 row bits
  ten_read =
      between bits other power 1 row digits row pos (omega (arith, lower_value, tenfold)) (mul-le-mul_right (10 ^ row) some_digit) also read

  nine_read : reads 9 below bits
  nine_read = between bits other power 9 below 1 row pos lower_value (omega (arith, tenfold)) also ten_read

  is_two : (below ≡ 18) × (bits ≡ 2)
  is_two = both_read bits below p (omega (arith, row_within bits)) nine_read (subst (λ k. reads 1 k bits) (sym next) ten_read)

  pub farther : distance digits row bits < distance other power bits
  farther =
      let value = subst (λ k. other * 10 ^ power ≤ 9 * 10 ^ k) is_two.0 lower_value in
      subst (λ b. distance (shortest b).0 (shortest b).1 b < distance other power b) (sym is_two.1) (at_two (other * 10 ^ power) value)
