use Rattle.std.proofs.Common.{◌≡◌, ℕ, ◌+◌, ◌-◌, ◌*◌, ◌^◌, ◌<◌, ◌≤◌, false, ap, subst, sym, ◌∙◌, arith, pow-add, le_of_mul-le-mul_right, lit<}
use native.Mathlib.Nat.{le_antisymm, le_of_eq, le_trans, lt_of_le_of_lt, mul-le-mul, mul-pos, pow-le-pow_right}
use lib.Pow.{pow_pos}
use lib.Ieee.{Float}
use lib.Ieee.Exact.{HasValue}
use lib.Ieee.Nearest.{closest, closest_same}
use lib.Ieee.Positive.{num, den, den_pos, value→cross}
use Rattle.fast_float.proofs.ExactLemmas.{ten_to_pos}
use Rattle.ion_value.specs.Shortest.{near}
use Rattle.ion_float.proofs.exact.Ratio.new.Goals as goal

below : (a b c d top : ℕ) → a ≤ b → c ≤ d → b * d < top → a * c < top
below a b c d top h g l = lt_of_le_of_lt (mul-le-mul h g) l

at_most : (a b c d : ℕ) → a ≤ b → c ≤ d → a * c ≤ b * d
at_most a b c d h g = mul-le-mul h g

power_up : (b k j : ℕ) → 0 < b → k ≤ j → b ^ k ≤ b ^ j
power_up b k j p h = pow-le-pow_right p h

-- the sizes of the two sides
twice_fits : (twice k j m e row : ℕ) → twice ≡ 2 * m * 2 ^ k → k ≡ e - 1074 → m < 2 ^ 53 → e < 2046 → j ≡ 342 - row → twice * 10 ^ j < 2 ^ 2176
twice_fits twice k j m e row t s M E r =
    let grown : twice ≤ 2 ^ 54 * 2 ^ 971 = le_trans (le_of_eq t) (at_most (2 * m) (2 ^ 54) (2 ^ k) (2 ^ 971) (omega arith) (power_up 2 k 971 (omega arith) (omega arith))) in
    below twice (2 ^ 54 * 2 ^ 971) (10 ^ j) (10 ^ 342) (2 ^ 2176) grown (power_up 10 j 342 (omega arith) (omega arith)) (lit< tt)

unit_fits : (unit k j e row : ℕ) → unit ≡ 1 * 2 ^ k → k ≡ 1074 - e → j ≡ row - 342 → row < 651 → unit * 10 ^ j < 2 ^ 2176
unit_fits unit k j e row u s r R =
    let grown : unit ≤ 1 * 2 ^ 1074 = le_trans (le_of_eq u) (at_most 1 1 (2 ^ k) (2 ^ 1074) (omega arith) (power_up 2 k 1074 (omega arith) (omega arith))) in
    below unit (1 * 2 ^ 1074) (10 ^ j) (10 ^ 308) (2 ^ 2176) grown (power_up 10 j 308 (omega arith) (omega arith)) (lit< tt)

pub times_ten_to-requires : goal.times_ten_to-requires
times_ten_to-requires c =
    let p = c.parts_of-significand in
    twice_fits _ _ _ p.result.0 p.result.1 c.args.row c.new-twice.ensures c.saturating_sub.ensures p.ensures.fits.0 p.ensures.fits.1 c.saturating_sub-3.ensures

pub times_ten_to-requires-2 : goal.times_ten_to-requires-2
times_ten_to-requires-2 c = unit_fits _ _ _ _ c.args.row c.new-unit.ensures c.saturating_sub-2.ensures c.saturating_sub-4.ensures c.requires.row

some : (unit all k j : ℕ) → unit ≡ 1 * 2 ^ k → all ≡ unit * 10 ^ j → 0 < all
some unit all k j u a = subst (λ n. 0 < n) (sym (a ∙ ap (λ n. n * 10 ^ j) u)) (mul-pos (mul-pos (omega arith) (pow_pos k)) (ten_to_pos j))

pub invariant_of-result : goal.invariant_of-result
invariant_of-result c = record { some = some _ _ _ _ c.new-unit.ensures c.times_ten_to-2.ensures }

cancel : (a b l : ℕ) → 0 < l → a * l ≡ b * l → a ≡ b
cancel a b l p e = le_antisymm (le_of_mul-le-mul_right (le_of_eq e) p) (le_of_mul-le-mul_right (le_of_eq (sym e)) p)

-- both sides lose the powers of two that they share
shared : (n d m up down all two : ℕ) → 0 < all → n * all ≡ m * two * d → all * up ≡ two * down → m * up * d ≡ n * down
shared n d m up down all two p v e = cancel (m * up * d) (n * down) all p (omega (arith, ap (λ z. z * down) v, ap (λ z. m * d * z) e))

crossed : (n d m up down tens parts : ℕ) → m * up * d ≡ n * down → 2 * m * up * tens * (d * parts) ≡ n * tens * (2 * (1 * down * parts))
crossed n d m up down tens parts e = omega (arith, ap (λ z. 2 * tens * parts * z) e)

near_is : (x : Float) (m e row : ℕ) → HasValue x false (m * 2 ^ e) (2 ^ 1074)
    → closest (2 * m * 2 ^ (e - 1074) * 10 ^ (342 - row)) (2 * (1 * 2 ^ (1074 - e) * 10 ^ (row - 342))) ≡ near x row
near_is x m e row v =
    let sum : 1074 + (e - 1074) ≡ e + (1074 - e) = omega arith in
    let same : 2 ^ 1074 * 2 ^ (e - 1074) ≡ 2 ^ e * 2 ^ (1074 - e) = sym (pow-add 2 1074 (e - 1074)) ∙ ap (λ k. 2 ^ k) sum ∙ pow-add 2 e (1074 - e) in
    let unit : 0 < 2 * (1 * 2 ^ (1074 - e) * 10 ^ (row - 342)) = mul-pos (omega arith) (mul-pos (mul-pos (omega arith) (pow_pos (1074 - e))) (ten_to_pos (row - 342))) in
    closest_same _ _ _ _ unit (mul-pos (den_pos x) (ten_to_pos (row - 342)))
    (crossed (num x) (den x) m (2 ^ (e - 1074)) (2 ^ (1074 - e)) (10 ^ (342 - row)) (10 ^ (row - 342))
    (shared (num x) (den x) m (2 ^ (e - 1074)) (2 ^ (1074 - e)) (2 ^ 1074) (2 ^ e) (pow_pos 1074) (value→cross x (m * 2 ^ e) (2 ^ 1074) v) same))

pub returns : goal.returns
returns c =
    let p = c.parts_of-significand in
    rw (c.times_ten_to.ensures, c.new-twice.ensures, c.saturating_sub.ensures, c.saturating_sub-3.ensures, c.times_ten_to-2.ensures, c.new-unit.ensures, c.saturating_sub-2.ensures, c.saturating_sub-4.ensures)
    (near_is _ p.result.0 p.result.1 c.args.row p.ensures.value)
