use Rattle.std.proofs.Common.{◌≡◌, ℕ, ◌+◌, ◌*◌, ◌%◌, ◌^◌, ◌<◌, ◌≤◌, length, take, refl, sym, ap, ap₂, ◌∙◌, arith, subst, mul-le-mul_right, mul-le-mul_left, inl, inr}
use native.Mathlib.Nat.{eq-zero-or-pos, le_of_lt}
use Rattle.std.proofs.lemmas.List.{take_all}
use Rattle.std.specs.Ordering.{nat_cmp, ordering_then}
use lib.Bits.{and_mask}
use Rattle.ion_float.specs.Limbs.{value}
use Rattle.ion_float.proofs.Limbs.{weight, weight-suc, weight_mono, value-nil, value-take_more, value-take_lt, multiply_step, cmp_step}
use Rattle.ion_float.proofs.exact.compare_multiple.Goals as goal

pub loop-index-init : goal.loop-index-init
loop-index-init c = (0, record { below = omega arith; done = rw value-nil (omega arith); order = rw value-nil refl })

grown : (low limb w : ℕ) → low < w → limb < 2 ^ 64 → low + limb * w < w * 2 ^ 64
grown low limb w l h = let step : limb + 1 ≤ 2 ^ 64 = omega arith in omega (arith, mul-le-mul_right w step)

pub loop-index-preserved : goal.loop-index-preserved
loop-index-preserved c =
    let l = c.loop-index in
    let low = l.invariant.0 in
    let known = l.invariant.1 in
    let w = weight l.index in
    let x = c.limb_at.result in
    let y = c.limb_at-in-loop-index.result in
    let limb = (x * c.args.factor + l.carry) % 2 ^ 64 in (
      low + limb * w,
      record {
        below = rw (weight-suc l.index) (grown low limb w known.below (omega arith));
        done = rw (value-take_more c.args.limbs.now l.index, weight-suc l.index, ← c.limb_at.ensures) (multiply_step low _ x c.args.factor l.carry w known.done);
        order =
            c.then-order.ensures
            ∙ ap₂ ordering_then (c.cmp.ensures ∙ ap₂ nat_cmp (and_mask (x * c.args.factor + l.carry) 64) refl) known.order
            ∙ sym (cmp_step low (value (take l.index c.args.others.now)) limb y w known.below (value-take_lt c.args.others.now l.index (λ k. (c.type_inv.others k).fits)))
            ∙ ap (nat_cmp (low + limb * w)) (ap (λ z. value (take l.index c.args.others.now) + z * w) c.limb_at-in-loop-index.ensures ∙ sym (value-take_more c.args.others.now l.index));
      },
    )

-- after the last limb nothing is carried
none_left : (low carry number factor len index : ℕ) → low + carry * weight index ≡ number * factor → number < weight len → factor < 2 ^ 64 → len + 1 ≤ index → carry ≡ 0
none_left low carry number factor len index done small fits above =
    elim (eq-zero-or-pos carry) [
      | inl z ↦ z
      | inr p ↦
          let grow = weight_mono (len + 1) index above in
          let more : number + 1 ≤ weight len = omega arith in
          absurd (omega (arith, grow, weight-suc len, mul-le-mul_right (weight index) p, mul-le-mul_left number (le_of_lt fits), mul-le-mul_right (2 ^ 64) more))
    ]

pub returns : goal.returns
returns c =
    let l = c.loop-index in
    let low = l.invariant.0 in
    let known = l.invariant.1 in
    let xs = c.args.limbs.now in
    let ys = c.args.others.now in
    let long : length xs + 1 ≤ l.index = omega arith in
    let all : take l.index xs ≡ xs = take_all l.index xs (omega arith) in
    let others : take l.index ys ≡ ys = take_all l.index ys (omega arith) in
    let done : low + l.carry * weight l.index ≡ value xs * c.args.factor = known.done ∙ ap (λ zs. value zs * c.args.factor) all in
    let small : value xs < weight (length xs) = subst (λ zs. value zs < weight (length xs)) (take_all (length xs) xs (omega arith)) (value-take_lt xs (length xs) (λ k. (c.type_inv.limbs k).fits)) in
    let none = none_left low l.carry (value xs) c.args.factor (length xs) l.index done small c.ranges.factor.fits long in
    let is : low ≡ value xs * c.args.factor = omega (arith, done, ap (λ z. z * weight l.index) none) in
    known.order ∙ ap₂ nat_cmp is (ap value others)
