use Rattle.std.proofs.Common.{◌≡◌, ℕ, ◌+◌, ◌*◌, ◌^◌, ◌<◌, ◌∷◌, ◌++◌, [], length, List, ap, sym, ◌∙◌, arith, subst, inl, inr, lit<, mul-le-mul_right}
use Rattle.std.proofs.lemmas.Bool.{cases_lt}
use Rattle.arrayvec.proofs.ArrayVecLemmas.{items-with_items}
use Rattle.ion_float.specs.Limbs.{value}
use Rattle.ion_float.proofs.Limbs.{weight, weight_mono, value-append}
use Rattle.ion_float.proofs.exact.Natural.multiply.Goals as goal

-- the limbs as the struct has them
product : (new was items : List ℕ) (carry factor self : ℕ) → was ≡ items → length new ≡ length was → value items ≡ self
    → value new + carry * weight (length was) ≡ value was * factor → value new + carry * weight (length new) ≡ self * factor
product new was items carry factor self e long v h = ap (λ n. value new + carry * weight n) long ∙ h ∙ ap (λ n. n * factor) (ap value e ∙ v)

-- what passes the last limb would be at least 2 ^ 2176
room : (done carry len product : ℕ) → 0 < carry → done + carry * weight len ≡ product → product < 2 ^ 2176 → len < 34
room done carry len product some is small =
    elim (cases_lt len 34) [
      | inl l ↦ l
      | inr g ↦ absurd (omega (arith, weight_mono 34 len g, mul-le-mul_right (weight len) some))
    ]

pub push-requires : goal.push-requires
push-requires c =
    let m = c.multiply-carry in
    let a = c.as_mut_slice in
    let limbs = c.self.inside.limbs in
    let long : length m.new.limbs ≡ length a.result.now = omega arith in
    let now = items-with_items limbs m.new.limbs (long ∙ ap length a.ensures.value) in
    let is = product m.new.limbs a.result.now limbs.items m.result c.args.factor c.args.self.now a.ensures.value long c.self.view_is m.ensures in
    (lit< tt, subst (λ xs. length xs < 34) (sym now) (room (value m.new.limbs) m.result (length m.new.limbs) _ c.if-carry-gt0.true is c.requires))

pub returns-then-carry-gt0 : goal.returns-then-carry-gt0
returns-then-carry-gt0 c =
    let m = c.multiply-carry in
    let a = c.as_mut_slice in
    let limbs = c.self.inside.limbs in
    let long : length m.new.limbs ≡ length a.result.now = omega arith in
    let now = items-with_items limbs m.new.limbs (long ∙ ap length a.ensures.value) in
    ap value (c.push.ensures.items ∙ ap (λ xs. xs ++ m.result ∷ []) now) ∙ value-append m.new.limbs m.result
    ∙ product m.new.limbs a.result.now limbs.items m.result c.args.factor c.args.self.now a.ensures.value long c.self.view_is m.ensures

pub returns-else-carry-gt0 : goal.returns-else-carry-gt0
returns-else-carry-gt0 c =
    let m = c.multiply-carry in
    let a = c.as_mut_slice in
    let limbs = c.self.inside.limbs in
    let long : length m.new.limbs ≡ length a.result.now = omega arith in
    let now = items-with_items limbs m.new.limbs (long ∙ ap length a.ensures.value) in
    let none : m.result ≡ 0 = omega arith in
    let is = product m.new.limbs a.result.now limbs.items m.result c.args.factor c.args.self.now a.ensures.value long c.self.view_is m.ensures in
    ap value now ∙ omega (arith, is, ap (λ n. n * weight (length m.new.limbs)) none)
