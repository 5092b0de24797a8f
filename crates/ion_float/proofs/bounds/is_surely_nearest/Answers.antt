use Rattle.std.proofs.Common.{◌≡◌, ℕ, ◌+◌, ◌-◌, ◌*◌, ◌/◌, ◌%◌, ◌^◌, ◌<◌, ◌≤◌, ap, sym, ◌∙◌, arith, pow-add, mod-eq_of_lt, mul-le-mul_left}
use lib.Pow.{pow_mono}
use borrow.Author.Tests.{ltb-true}
use Rattle.fast_float.specs.Powers.{power_scale}
use Rattle.ion_float.proofs.PowerBounds.{nearest_by_bounds}
use Rattle.ion_float.proofs.bounds.is_surely_nearest.Goals as goal

-- what is cut off is below 2 ^ 64, and so is the factor
under : (f t below middle w : ℕ) → f < 2 ^ 64 → below ≡ f * t / 2 ^ 64 → below + 1 < middle → middle * 2 ^ 64 ≡ w → f * (t + 1) < w
under f t below middle w F b h e = omega arith

over : (f t above middle w : ℕ) → above ≡ f * t / 2 ^ 64 → middle < above → middle * 2 ^ 64 ≡ w → w < f * t
over f t above middle w a h e = omega arith

-- nothing is shifted out
middle_is : (m shift : ℕ) → m < 2 ^ 53 → 64 ≤ shift → shift ≤ 138 → m * 2 ^ (shift - 64) % 2 ^ 128 * 2 ^ 64 ≡ m * 2 ^ shift
middle_is m shift M lo hi =
    let small : 2 ^ (shift - 64) ≤ 2 ^ 74 = pow_mono {i = shift - 64} {j = 74} (omega arith) in
    let within : m * 2 ^ (shift - 64) < 2 ^ 128 = omega (arith, mul-le-mul_left m small, M) in
    let sum : shift - 64 + 64 ≡ shift = omega arith in
    let joined : 2 ^ (shift - 64) * 2 ^ 64 ≡ 2 ^ shift = sym (pow-add 2 (shift - 64) 64) ∙ ap (λ k. 2 ^ k) sum in
    ap (λ z. z * 2 ^ 64) (mod-eq_of_lt within) ∙ omega (arith, ap (λ z. m * z) joined)

pub returns-then-below-middle : goal.returns-then-below-middle
returns-then-below-middle c h =
    let p = c.parts_of-significand in
    let power = c.power_of_ten-power in
    let row = c.args.row in
    let digits = c.args.digits in
    let shift = c.saturating_sub-shift.result in
    let above = c.upper_product-above.result in
    let middle = p.result.0 * 2 ^ (shift - 64) % 2 ^ 128 in
    let is = middle_is p.result.0 shift p.ensures.fits.0 (omega arith) (omega arith) in
    let sum : shift + power_scale row ≡ p.result.1 + 193 = omega (arith, c.saturating_sub-shift.ensures) in
    let lo = under (2 * digits - 1) power.result c.upper_product-below.result middle (p.result.0 * 2 ^ shift) (omega arith)
    (c.upper_product-below.ensures ∙ ap (λ f. f * power.result / 2 ^ 64) c.saturating_sub.ensures) c.if-below-middle.true is in
    let hi = over (2 * digits + 1) power.result above middle (p.result.0 * 2 ^ shift) c.upper_product-above.ensures (ltb-true middle above h) is in
    nearest_by_bounds _ p.result.0 p.result.1 shift row power.result digits p.ensures.value power.ensures sum lo hi
