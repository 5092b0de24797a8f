-- The words for the shortest decimal of a double, by which it is known: the fewest digits, and the nearest of those.
use Rattle.std.proofs.Common.{◌≡◌, ◌↔◌, ℕ, ◌+◌, ◌*◌, ◌^◌, ◌<◌, ◌≤◌, sym, ap, ◌∙◌, subst, inl, inr, arith, le_of_lt, le_antisymm, not-le_of_lt}
use Rattle.std.proofs.lemmas.Bool.{cases_lt}
use Rattle.std.specs.Prelude.{from_bits}
use lib.Ieee.{binary64}
use lib.Ieee.Positive.{num, den}
use Rattle.ion_value.specs.Shortest.{IsAboveZero, IsPositive, reads, shortest}
use Rattle.ion_float.specs.Laws.{distance, HasNoMoreDigits, IsShortest}
use Rattle.ion_float.proofs.Ends.{shortest_is_taken}
use Rattle.ion_float.proofs.Fewest.{none_greater, none_shorter}
use Rattle.ion_float.proofs.LowerRows.{farther}
use Rattle.ion_float.proofs.Nearest.{some_unit, between_nearer, between_reads, taken_nearest, taken_even}
use Rattle.ion_float.proofs.Reading.{is-positive, shortest_reads}

-- ---- the definition is as the words say

module _ (bits : ℕ) (p : IsAboveZero bits) where
  pos : IsPositive bits
  pos = is-positive bits p

  read : reads (shortest bits).0 (shortest bits).1 bits
  read = shortest_reads bits p.1 pos

  fewest : (other power : ℕ) → reads other power bits → HasNoMoreDigits (shortest bits).0 other
  fewest other power also n few =
      elim (cases_lt (shortest bits).0 (10 ^ n)) [
        | inl l ↦ l
        | inr g ↦ absurd (none_shorter bits power other n p few g also)
      ]

  in_row : (other : ℕ) → reads other (shortest bits).1 bits → distance (shortest bits).0 (shortest bits).1 bits ≤ distance other (shortest bits).1 bits
  in_row other also = taken_nearest bits (shortest bits).1 pos (shortest bits).0 other (shortest_is_taken bits p) read also

  pub shortest_nearest : (other power : ℕ) → reads other power bits → HasNoMoreDigits other (shortest bits).0
      → distance (shortest bits).0 (shortest bits).1 bits ≤ distance other power bits
  shortest_nearest other power also few =
      elim (cases_lt power (shortest bits).1) [
        | inl l ↦ le_of_lt (farther bits other power p l also few)
        | inr g ↦ elim (cases_lt (shortest bits).1 power) [
          | inl l ↦ absurd (none_greater bits power other p l also)
          | inr h ↦
              let same : power ≡ (shortest bits).1 = le_antisymm h g in
              subst (λ k. distance (shortest bits).0 (shortest bits).1 bits ≤ distance other k bits) (sym same) (in_row other (subst (λ k. reads other k bits) same also))
        ]
      ]

  shortest_is : IsShortest (shortest bits).0 (shortest bits).1 bits
  shortest_is = record {
    read = read;
    fewest = fewest;
    nearest = shortest_nearest;
    even = λ other also few differs same. taken_even bits (shortest bits).1 pos (shortest bits).0 other (shortest_is_taken bits p) read also differs same;
  }

  -- ---- and what the words fit is it

  -- in one row they fit one
  not_two : (a b row : ℕ) → IsShortest a row bits → IsShortest b row bits → a < b → ⊥
  not_two a b row s t l =
      let few = s.fewest b row t.read in
      let many = t.fewest a row s.read in
      let same = le_antisymm (t.nearest a row s.read few) (s.nearest b row t.read many) in
      let even = s.even b t.read many (λ e. absurd (omega (arith, e, l))) same in
      let also = t.even a s.read few (λ e. absurd (omega (arith, e, l))) (sym same) in
      let far : a + 2 ≤ b = omega arith in
      let mid = between_reads bits row pos a (a + 1) b (omega arith) (omega arith) s.read t.read in
      not-le_of_lt (between_nearer (num (from_bits binary64 bits) * 10 ^ 342) (10 ^ row) (den (from_bits binary64 bits)) (some_unit bits row pos) a b far same)
      (s.nearest (a + 1) row mid (λ n h. lower n b l (many n h)))
    where
      lower : (n b : ℕ) → a < b → b < 10 ^ n → a + 1 < 10 ^ n
      lower n b l h = omega (arith, l, h)

  one_in_row : (a b row : ℕ) → IsShortest a row bits → IsShortest b row bits → a ≡ b
  one_in_row a b row s t =
      elim (cases_lt a b) [
        | inl l ↦ absurd (not_two a b row s t l)
        | inr g ↦ elim (cases_lt b a) [
          | inl l ↦ absurd (not_two b a row t s l)
          | inr h ↦ le_antisymm h g
        ]
      ]

  is_shortest : (digits row : ℕ) → IsShortest digits row bits → shortest bits ≡ (digits, row)
  is_shortest digits row s =
      let few = shortest_is.fewest digits row s.read in
      let many = s.fewest (shortest bits).0 (shortest bits).1 read in
      elim (cases_lt row (shortest bits).1) [
        | inl l ↦ absurd (not-le_of_lt (farther bits digits row p l s.read many) (s.nearest (shortest bits).0 (shortest bits).1 read few))
        | inr g ↦ elim (cases_lt (shortest bits).1 row) [
          | inl l ↦ absurd (none_greater bits row digits p l s.read)
          | inr h ↦
              let e : (shortest bits).1 ≡ row = le_antisymm g h in
              ap (λ d. (d, (shortest bits).1)) (one_in_row (shortest bits).0 digits (shortest bits).1 shortest_is (subst (λ k. IsShortest digits k bits) (sym e) s)) ∙ ap (λ k. (digits, k)) e
        ]
      ]

pub shortest_by_words : (bits digits row : ℕ) → IsAboveZero bits → (shortest bits ≡ (digits, row)) ↔ IsShortest digits row bits
shortest_by_words bits digits row p = (λ e. subst (λ r. IsShortest r.0 r.1 bits) e (shortest_is bits p), is_shortest bits p digits row)
