-- What the definition gives for a float reads as the float.
use Rattle.std.proofs.Common.{◌≡◌, ℕ, zero, suc, ◌+◌, ◌*◌, ◌/◌, ◌%◌, ◌^◌, ◌<◌, ◌≤◌, Bool, true, false, refl, sym, ap, ◌∙◌, subst, arith, div-add-mod'}
use mathlib.Core.Bool.{true≢false}
use native.Mathlib.Nat.{pow-suc}
use lib.Ieee.{Float, binary64, prec, low, hid, ones, of_bits, round}
use lib.Ieee.Exact.{HasValue}
use Rattle.fast_float.specs.Rounding.{scaled_bits, IsNearestBits}
use Rattle.fast_float.proofs.Patterns.{of_bits_value}
use lib.Ieee.Positive.{positive_of_value}
use native.Mathlib.Nat.{mul-pos}
use lib.Pow.{pow_pos}
use Rattle.ion_value.specs.Shortest.{reads, IsAboveZero, IsPositive, near, reads_as, search, shortest}
use Rattle.ion_float.proofs.Back.{least_reads}
use Rattle.ion_float.proofs.Between.{zero-reads}
use Rattle.ion_float.proofs.Search.{reads_as-true, reads_as-reads}

-- a float as m * 2 ^ k of the least one
pub record IsMade (bits m k : ℕ) : Type 0 where
  pub bits_are : scaled_bits binary64 m k ≡ bits
  pub value : HasValue (of_bits binary64 bits) false (m * 2 ^ k) (2 ^ low binary64)
  pub most : m ≤ 2 ^ prec binary64
  pub normal : 0 < k → hid binary64 < m

at_fields : (x t : ℕ) → x < ones binary64 → t < hid binary64 → (m : ℕ) × (k : ℕ) × IsMade (x * hid binary64 + t) m k
at_fields zero t X H = (t, 0, record { bits_are = omega arith; value = of_bits_value binary64 zero t X H; most = omega arith; normal = λ h. absurd (omega arith) })
at_fields (suc zero) t X H =
    (hid binary64 + t, 0, record { bits_are = omega arith; value = of_bits_value binary64 1 t X H; most = omega arith; normal = λ h. absurd (omega arith) })
at_fields (suc (suc i)) zero X H = (
  2 * hid binary64,
  i,
  record {
    bits_are = omega arith;
    value = subst (λ a. HasValue (of_bits binary64 (suc (suc i) * hid binary64 + 0)) false a (2 ^ low binary64)) (twice (hid binary64) i) (of_bits_value binary64 (suc (suc i)) zero X H);
    most = omega arith;
    normal = λ h. omega arith;
  },
)
  where
    twice : (h i : ℕ) → (h + 0) * 2 ^ suc i ≡ 2 * h * 2 ^ i
    twice h i = omega (arith, ap (λ z. h * z) (pow-suc 2 i))
at_fields (suc (suc i)) (suc t) X H =
    (hid binary64 + suc t, suc i, record { bits_are = omega arith; value = of_bits_value binary64 (suc (suc i)) (suc t) X H; most = omega arith; normal = λ h. omega arith })

pub made : (bits : ℕ) → bits < ones binary64 * hid binary64 → (m : ℕ) × (k : ℕ) × IsMade bits m k
made bits h =
    let parts = div-add-mod' bits (hid binary64) in
    let field : bits / hid binary64 < ones binary64 = omega arith in
    let rest : bits % hid binary64 < hid binary64 = omega arith in
    let e : bits / hid binary64 * hid binary64 + bits % hid binary64 ≡ bits = omega arith in
    subst (λ b. (m : ℕ) × (k : ℕ) × IsMade b m k) e (at_fields (bits / hid binary64) (bits % hid binary64) field rest)

-- bits above zero and below those of infinity are of a finite double above zero
pub is-positive : (bits : ℕ) → IsAboveZero bits → IsPositive bits
is-positive bits p =
    let it = made bits p.1 in
    let r = it.2 in
    positive_of_value (of_bits binary64 bits) (it.0 * 2 ^ it.1) (2 ^ low binary64) r.value (mul-pos (some bits it.0 it.1 p.0 r.bits_are r.normal) (pow_pos it.1))
  where
    some : (bits m k : ℕ) → 0 < bits → scaled_bits binary64 m k ≡ bits → (0 < k → hid binary64 < m) → 0 < m
    some bits m zero b e n = omega arith
    some bits m (suc k) b e n = omega (arith, n (omega arith))

pub at_least : (bits : ℕ) → bits < ones binary64 * hid binary64 → reads (near (of_bits binary64 bits) 0) 0 bits
at_least bits h =
    let it = made bits h in
    let r = it.2 in
    let near_bits = least_reads (of_bits binary64 bits) it.0 it.1 r.value r.most r.normal in
    at_one (near (of_bits binary64 bits) 0) (subst (λ b. IsNearestBits binary64 (near (of_bits binary64 bits) 0) (10 ^ 342) b) r.bits_are near_bits)
  where
    at_one : (c : ℕ) → IsNearestBits binary64 c (10 ^ 342) bits → reads c 0 bits
    at_one c n =
        let one : c * 1 ≡ c = omega arith in
        ap (λ z. round binary64 false z (10 ^ 342)) one ∙ sym n.0

found : (x : Float) (bits n : ℕ) (b c : Bool) → (b ≡ true → reads_as bits (near x n) n ≡ true) → (c ≡ true → reads_as bits (near x n + 1) n ≡ true)
    → reads_as bits (near x 0) 0 ≡ true → reads_as bits (search x bits n b c).0 (search x bits n b c).1 ≡ true
unfolding search
found x bits n true c h g z = h refl
found x bits n false true h g z = g refl
found x bits zero false false h g z = z
found x bits (suc n) false false h g z = found x bits n _ _ (λ e. e) (λ e. e) z

-- the digits of a finite float above zero read as it
pub shortest_reads : (bits : ℕ) → bits < ones binary64 * hid binary64 → IsPositive bits → reads (shortest bits).0 (shortest bits).1 bits
unfolding shortest
shortest_reads bits h p =
    let z = reads_as-true bits (near (of_bits binary64 bits) 0) 0 (omega arith) p (at_least bits h) in
    reads_as-reads bits (search (of_bits binary64 bits) bits 651 false false).0 (search (of_bits binary64 bits) bits 651 false false).1 (found (of_bits binary64 bits) bits 651 false false (λ e. absurd (no e)) (λ e. absurd (no e)) z)
  where
    no : false ≡ true → ⊥
    no e = true≢false (sym e)

-- so it has digits
pub some_digits : (digits row bits : ℕ) → IsAboveZero bits → (digits, row) ≡ shortest bits → 1 ≤ digits
some_digits zero row bits p e =
    let read = shortest_reads bits p.1 (is-positive bits p) in
    absurd (zero-reads row bits (is-positive bits p) (subst (λ (r : ℕ × ℕ). reads r.0 r.1 bits) (sym e) read))
some_digits (suc d) row bits p e = omega arith
