-- The shortest decimal of a double has few digits, and one at least.
use Rattle.std.proofs.Common.{◌≡◌, ℕ, zero, suc, ◌+◌, ◌*◌, ◌^◌, ◌<◌, ◌≤◌, Bool, true, false, refl, sym, ◌∙◌, inl, inr, arith, add-one}
use mathlib.Core.Bool.{true≢false}
use Rattle.std.proofs.lemmas.Bool.{cases_lt}
use lib.Ieee.{binary64, of_bits}
use Rattle.ion_value.specs.Shortest.{IsAboveZero, near, reads_as, search, shortest}
use Rattle.ion_float.proofs.Few.{reads-many, next_near, first_near}
use Rattle.ion_float.proofs.Reading.{is-positive}
use Rattle.ion_float.proofs.Search.{reads_as-true}

-- where the nearest multiple doesn't read, it is no more than 2 ^ 53
few-here : (bits row : ℕ) → IsAboveZero bits → reads_as bits (near (of_bits binary64 bits) row) row ≡ false → near (of_bits binary64 bits) row ≤ 2 ^ 53
few-here bits row h unread = elim (cases_lt (2 ^ 53) (near (of_bits binary64 bits) row)) [
  | inl l ↦
      let read = reads-many bits row h.1 l in
      absurd (true≢false (sym (reads_as-true bits (near (of_bits binary64 bits) row) row (omega (arith, h.1)) (is-positive bits h) read) ∙ unread))
  | inr g ↦ g
]

few-search : (bits n : ℕ) (b c : Bool) → IsAboveZero bits → near (of_bits binary64 bits) n ≤ 10 * 2 ^ 53 + 5
    → (b ≡ false → near (of_bits binary64 bits) n ≤ 2 ^ 53) → (search (of_bits binary64 bits) bits n b c).0 < 10 ^ 17
unfolding search
few-search bits n true c h most few = omega (arith, most)
few-search bits n false true h most few = omega (arith, most)
few-search bits zero false false h most few = omega (arith, most)
few-search bits (suc n) false false h most few =
    let x = of_bits binary64 bits in
    let next = rw add-one at (next_near x n) in
    let last = few refl in
    few-search bits n (reads_as bits (near x n) n) (reads_as bits (near x n + 1) n) h (omega (arith, next, last)) (few-here bits n h)

pub few-digits : (bits : ℕ) → IsAboveZero bits → (shortest bits).0 < 10 ^ 17
unfolding shortest
few-digits bits h =
    let first = first_near bits h.1 in
    few-search bits 651 false false h (omega (arith, first)) (λ _. first)
