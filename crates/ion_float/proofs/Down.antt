-- One step of the search, from a row to the one below it.
use Rattle.std.proofs.Common.{◌≡◌, ℕ, ◌+◌, ◌-◌, ◌^◌, ◌<◌, ◌≤◌, true, false, sym, ap, ◌∙◌, subst, arith, inl, inr}
use Rattle.std.specs.Prelude.{from_bits}
use Rattle.std.proofs.lemmas.Bool.{cases_lt}
use lib.Ieee.{binary64}
use Rattle.ion_value.specs.Shortest.{IsAboveZero, reads, near, reads_as, search, shortest}
use Rattle.ion_float.proofs.Few.{next_near, reads-many}
use Rattle.ion_float.proofs.Reading.{is-positive, at_least}
use Rattle.ion_float.proofs.Search.{by_test, reads_as-true, reads_as-reads, step_down, taken, taken_above, passed}

module _ (bits row digits : ℕ) (p : IsAboveZero bits) (some : 0 < row) (same : digits ≡ near (from_bits binary64 bits) (row - 1)) where
  true-from : (d : ℕ) → reads d (row - 1) bits → reads_as bits d (row - 1) ≡ true
  true-from d h = reads_as-true bits d (row - 1) (omega arith) (is-positive bits p) h

  false-from : (d : ℕ) → ¬ (reads d (row - 1) bits) → reads_as bits d (row - 1) ≡ false
  false-from d h = by_test (reads_as bits d (row - 1)) (λ e. h (reads_as-reads bits d (row - 1) e))

  module _ (so : shortest bits ≡ search (from_bits binary64 bits) bits row false false) where
    pub found : reads digits (row - 1) bits → (digits, row - 1) ≡ shortest bits
    found h =
        sym (step_down bits row digits some so same ∙ taken (from_bits binary64 bits) bits (row - 1) _ _ (true-from digits h) ∙ ap (λ d. (d, row - 1)) (sym same))

    pub found_above : ¬ (reads digits (row - 1) bits) → reads (digits + 1) (row - 1) bits → (digits + 1, row - 1) ≡ shortest bits
    found_above n h =
        sym (step_down bits row digits some so same ∙ taken_above (from_bits binary64 bits) bits (row - 1) _ _ (false-from digits n) (true-from (digits + 1) h)
        ∙ ap (λ d. (d + 1, row - 1)) (sym same))

    pub passed_on : ¬ (reads digits (row - 1) bits) → ¬ (reads (digits + 1) (row - 1) bits) → shortest bits ≡ search (from_bits binary64 bits) bits (row - 1) false false
    passed_on n m =
        step_down bits row digits some so same ∙ passed (from_bits binary64 bits) bits (row - 1) _ _ (false-from digits n) (false-from (digits + 1) m)

  -- in row 0 they read
  pub least : row - 1 ≡ 0 → reads digits (row - 1) bits
  least e = subst (λ d. reads d (row - 1) bits) (sym same) (subst (λ k. reads (near (from_bits binary64 bits) k) k bits) (sym e) (at_least bits p.1))

  pub few_here : near (from_bits binary64 bits) row ≤ 2 ^ 53 → digits + 1 < 10 ^ 17
  few_here h =
      let e : row - 1 + 1 ≡ row = omega arith in
      omega (arith, next_near (from_bits binary64 bits) (row - 1), ap (near (from_bits binary64 bits)) e)

  pub few_passed : ¬ (reads digits (row - 1) bits) → near (from_bits binary64 bits) (row - 1) ≤ 2 ^ 53
  few_passed n =
      elim (cases_lt (2 ^ 53) (near (from_bits binary64 bits) (row - 1))) [
        | inl l ↦ absurd (n (subst (λ d. reads d (row - 1) bits) (sym same) (reads-many bits (row - 1) p.1 l)))
        | inr g ↦ g
      ]
