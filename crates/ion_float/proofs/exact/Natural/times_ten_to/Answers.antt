use Rattle.std.proofs.Common.{◌≡◌, ℕ, ◌+◌, ◌-◌, ◌*◌, ◌^◌, ◌<◌, ◌≤◌, arith, ap, ◌∙◌, pow-add, mul-le-mul_left, lit<}
use native.Mathlib.Nat.{le_of_eq, lt_of_le_of_lt, pow-le-pow_right}
use Rattle.fast_float.proofs.ExactLemmas.{ten_to_pos}
use Rattle.ion_float.proofs.exact.Natural.times_ten_to.Goals as goal

split : (b k n : ℕ) → k ≤ n → b ^ n ≡ b ^ k * b ^ (n - k)
split b k n h =
    let e : n ≡ k + (n - k) = omega arith in
    ap (λ m. b ^ m) e ∙ pow-add b k (n - k)

-- `step` of the tens are multiplied in
one_step : (self step left start : ℕ) → step ≤ left → self * 10 ^ left ≡ start → self * 10 ^ step * 10 ^ (left - step) ≡ start
one_step self step left start h e = omega (arith, e, ap (λ z. self * z) (split 10 step left h))

within : (a b c top : ℕ) → 0 < c → a * b * c < top → a * b < top
within a b c top p h = omega (arith, mul-le-mul_left (a * b) p)

pub multiply-requires : goal.multiply-requires
multiply-requires c =
    let l = c.loop-left in
    within l.self (10 ^ 19) (10 ^ (l.left - 19)) (2 ^ 2176) (ten_to_pos (l.left - 19)) (lt_of_le_of_lt (le_of_eq (one_step l.self 19 l.left _ c.loop-left-test.true l.invariant)) c.requires)

pub loop-left-preserved : goal.loop-left-preserved
loop-left-preserved c =
    let l = c.loop-left in
    rw c.multiply.ensures (one_step l.self 19 l.left _ c.loop-left-test.true l.invariant)

few : (k : ℕ) → k ≤ 18 → 10 ^ k ≤ 10 ^ 18
few k h = pow-le-pow_right (lit< tt) h

pub pow-requires : goal.pow-requires
pow-requires c = lt_of_le_of_lt (few c.loop-left.left (omega arith)) (lit< tt)
