-- What the search ends with.
use Rattle.std.proofs.Common.{◌≡◌, ℕ, zero, suc, ◌+◌, ◌^◌, ◌<◌, ◌≤◌, Bool, true, false, refl, sym, ap, ◌∙◌, subst, arith, inl, inr, add-one, lit<, lit≤}
use Rattle.std.specs.Prelude.{from_bits}
use Rattle.std.proofs.lemmas.Bool.{cases_lt}
use mathlib.Core.Bool.{true≢false}
use native.Mathlib.Nat.{lt_of_le_of_lt}
use lib.Ieee.{Float, binary64}
use Rattle.ion_value.specs.Shortest.{IsAboveZero, IsTaken, NoneAbove, reads, near, reads_as, search, shortest}
use Rattle.ion_float.proofs.Fewest.{none_greater, too_great}
use Rattle.ion_float.proofs.Few.{first_near, next_near, reads-many}
use Rattle.ion_float.proofs.Reading.{is-positive, shortest_reads}
use Rattle.ion_float.proofs.Search.{reads_as-true}

row_of : (x : Float) (bits n : ℕ) (b c : Bool) → (search x bits n b c).1 ≤ n
unfolding search
row_of x bits n true c = omega arith
row_of x bits n false true = omega arith
row_of x bits zero false false = omega arith
row_of x bits (suc n) false false = let before = row_of x bits n (reads_as bits (near x n) n) (reads_as bits (near x n + 1) n) in omega (arith, before)

-- it is below 651
pub row_within : (bits : ℕ) → (shortest bits).1 < 651
unfolding shortest search
row_within bits =
    let x = from_bits binary64 bits in
    let before = row_of x bits 650 (reads_as bits (near x 650) 650) (reads_as bits (near x 650 + 1) 650) in
    lt_of_le_of_lt before (lit< tt)

module _ (bits : ℕ) (p : IsAboveZero bits) where
  unread : (d row : ℕ) → reads_as bits d row ≡ false → ¬ (reads d row bits)
  unread d row e h = true≢false (sym (reads_as-true bits d row (omega arith) (is-positive bits p) h) ∙ e)

  taken_of : (n : ℕ) (b c : Bool) → (b ≡ false → ¬ (reads (near (from_bits binary64 bits) n) n bits))
      → IsTaken (search (from_bits binary64 bits) bits n b c).0 (search (from_bits binary64 bits) bits n b c).1 bits
  unfolding search
  taken_of n true c h = inl refl
  taken_of n false true h = inr (refl, h refl)
  taken_of zero false false h = inl refl
  taken_of (suc n) false false h = taken_of n _ _ (unread (near (from_bits binary64 bits) n) n)

  -- the digits are those that the definition takes in their row
  pub shortest_is_taken : IsTaken (shortest bits).0 (shortest bits).1 bits
  unfolding shortest
  shortest_is_taken = taken_of 651 false false (λ e. too_great bits 651 (near (from_bits binary64 bits) 651) p (lit≤ tt))

  few_of : (n : ℕ) (b c : Bool) → near (from_bits binary64 bits) n + 1 < 10 ^ 17 → (b ≡ false → near (from_bits binary64 bits) n ≤ 2 ^ 53)
      → (search (from_bits binary64 bits) bits n b c).0 < 10 ^ 17
  unfolding search
  few_of n true c h g = lt_of_le_of_lt (le_add (near (from_bits binary64 bits) n)) h
    where
      le_add : (q : ℕ) → q ≤ q + 1
      le_add q = omega arith
  few_of n false true h g = h
  few_of zero false false h g = lt_of_le_of_lt (le_add (near (from_bits binary64 bits) zero)) h
    where
      le_add : (q : ℕ) → q ≤ q + 1
      le_add q = omega arith
  few_of (suc n) false false h g = few_of n _ _ (next n (g refl)) (passed n)
    where
      next : (n : ℕ) → near (from_bits binary64 bits) (suc n) ≤ 2 ^ 53 → near (from_bits binary64 bits) n + 1 < 10 ^ 17
      next n k = omega (arith, next_near (from_bits binary64 bits) n, k, ap (near (from_bits binary64 bits)) (add-one n))

      passed : (n : ℕ) → reads_as bits (near (from_bits binary64 bits) n) n ≡ false → near (from_bits binary64 bits) n ≤ 2 ^ 53
      passed n e = elim (cases_lt (2 ^ 53) (near (from_bits binary64 bits) n)) [
        | inl l ↦ absurd (unread (near (from_bits binary64 bits) n) n e (reads-many bits n p.1 l))
        | inr g ↦ g
      ]

  -- and they are below 10 ^ 17
  pub few_digits : (shortest bits).0 < 10 ^ 17
  unfolding shortest
  few_digits = few_of 651 false false (start (near (from_bits binary64 bits) 651) (first_near bits p.1)) (λ e. first_near bits p.1)
    where
      start : (q : ℕ) → q ≤ 2 ^ 53 → q + 1 < 10 ^ 17
      start q h = omega (arith, h)

-- what the tests of a guess find of the digits that the definition gives
pub record Passes (digits row bits : ℕ) : Type 0 where
  pub few : digits < 10 ^ 17
  pub within : row < 651
  pub read : reads digits row bits
  pub last : NoneAbove row bits
  pub taken : IsTaken digits row bits

pub passes : (bits digits row : ℕ) → IsAboveZero bits → (digits, row) ≡ shortest bits → Passes digits row bits
passes bits digits row p e =
    subst (λ (r : ℕ × ℕ). Passes r.0 r.1 bits) (sym e)
    (record {
      few = few_digits bits p;
      within = row_within bits;
      read = shortest_reads bits p.1 (is-positive bits p);
      last = λ more. none_greater bits ((shortest bits).1 + 1) more p (omega arith);
      taken = shortest_is_taken bits p;
    })
