use Rattle.std.proofs.Common.{◌≡◌, ℕ, ◌+◌, ◌-◌, ◌*◌, ◌/◌, ◌%◌, ◌^◌, ◌<◌, ◌≤◌, List, [], ◌∷◌, ◌++◌, length, ap, sym, ◌∙◌, arith, pow-add, mod-eq_of_lt}
use native.Mathlib.Nat.{mul-le-mul_left}
use lib.Bits.{bit_and, and_mask}
use Rattle.arrayvec.specs.ArrayVec.{ArrayVec}
use lib.Pow.{pow_mono}
use Rattle.ion_float.specs.Limbs.{value}
use Rattle.ion_float.proofs.Limbs.{weight, weight-suc, value-nil, value-append}
use Rattle.ion_float.proofs.exact.Natural.new.Goals as goal
use Rattle.ion_float.proofs.exact.Natural.new.Goals.{then-high-gt0, else-high-gt0}

pub loop-init : goal.loop-init
loop-init c = record { none = ap value c.new-limbs.ensures ∙ value-nil; long = ap length c.new-limbs.ensures }

pub loop-preserved : goal.loop-preserved
loop-preserved c =
    let l = c.loop in
    record {
      none = ap value c.push.ensures.items ∙ value-append l.limbs.items 0 ∙ omega (arith, l.invariant.none);
      long = c.push.ensures.len ∙ omega (arith, l.invariant.long);
    }

-- the low limb of the shifted number, and both of its limbs, after q zeros
one_limb : (xs ys : List ℕ) (wide q : ℕ) → value xs ≡ 0 → length xs ≡ q → ys ≡ xs ++ bit_and wide (2 ^ 64 - 1) ∷ [] → value ys ≡ wide % 2 ^ 64 * weight q
one_limb xs ys wide q v long e =
    ap value e ∙ value-append xs (bit_and wide (2 ^ 64 - 1))
    ∙ omega (arith, v, ap (λ k. bit_and wide (2 ^ 64 - 1) * weight k) long, ap (λ z. z * weight q) (and_mask wide 64))

two_limbs : (xs ys zs : List ℕ) (wide q : ℕ) → value xs ≡ 0 → length xs ≡ q → ys ≡ xs ++ bit_and wide (2 ^ 64 - 1) ∷ [] → length ys ≡ length xs + 1
    → zs ≡ ys ++ wide / 2 ^ 64 ∷ [] → value zs ≡ wide * weight q
two_limbs xs ys zs wide q v long e longer f =
    let at : weight (length ys) ≡ weight q * 2 ^ 64 = ap weight (longer ∙ ap (λ k. k + 1) long) ∙ weight-suc q in
    let parts : wide % 2 ^ 64 + wide / 2 ^ 64 * 2 ^ 64 ≡ wide = omega arith in
    ap value f ∙ value-append ys (wide / 2 ^ 64)
    ∙ omega (arith, one_limb xs ys wide q v long e, ap (λ z. wide / 2 ^ 64 * z) at, ap (λ z. z * weight q) parts)

-- nothing is shifted out, and the zeros shift by the rest
shifted : (number power q : ℕ) → number < 2 ^ 64 → q ≡ power / 64 → number * 2 ^ (power % 64) % 2 ^ 128 * weight q ≡ number * 2 ^ power
shifted number power q fits e =
    let small : 2 ^ (power % 64) ≤ 2 ^ 64 = pow_mono {i = power % 64} {j = 64} (omega arith) in
    let within : number * 2 ^ (power % 64) < 2 ^ 128 = omega (arith, mul-le-mul_left number small, fits) in
    let sum : 64 * q + power % 64 ≡ power = omega arith in
    let joined : weight q * 2 ^ (power % 64) ≡ 2 ^ power = sym (pow-add 2 (64 * q) (power % 64)) ∙ ap (λ k. 2 ^ k) sum in
    ap (λ z. z * weight q) (mod-eq_of_lt within) ∙ omega (arith, ap (λ z. number * z) joined)

pub returns : goal.returns
returns c =
    let l = c.loop in
    let wide = c.args.number * 2 ^ (c.args.power % 64) % 2 ^ 128 in
    let q : l.counter ≡ c.args.power / 64 = omega arith in
    let whole = shifted c.args.number c.args.power l.counter c.ranges.number.fits q in
    elim c.if-high-gt0.branch [
      | then-high-gt0 w ↦
          ap (λ (v : ArrayVec ℕ). value v.items) w.limbs-is
          ∙ two_limbs l.limbs.items c.push-2.new.self.items w.push-then-high-gt0.new.self.items wide l.counter l.invariant.none l.invariant.long c.push-2.ensures.items c.push-2.ensures.len w.push-then-high-gt0.ensures.items
          ∙ whole
      | else-high-gt0 w ↦
          let low : wide % 2 ^ 64 ≡ wide = omega (arith, w.if-high-gt0.false) in
          ap (λ (v : ArrayVec ℕ). value v.items) w.limbs-is
          ∙ one_limb l.limbs.items c.push-2.new.self.items wide l.counter l.invariant.none l.invariant.long c.push-2.ensures.items ∙ ap (λ z. z * weight l.counter) low ∙ whole
    ]
