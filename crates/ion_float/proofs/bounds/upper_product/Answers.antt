use Rattle.std.proofs.Common.{◌≡◌, ℕ, ◌+◌, ◌*◌, ◌/◌, ◌%◌, ◌^◌, ap, arith}
use lib.Bits.{and_mask}
use Rattle.ion_float.proofs.bounds.upper_product.Goals as goal

carried : (a y x : ℕ) → a * 2 ^ 64 + y ≡ x → a + y / 2 ^ 64 ≡ x / 2 ^ 64
carried a y x e = omega arith

split : (f p : ℕ) → f * (p / 2 ^ 64) + f * (p % 2 ^ 64) / 2 ^ 64 ≡ f * p / 2 ^ 64
split f p =
    let parts : p / 2 ^ 64 * 2 ^ 64 + p % 2 ^ 64 ≡ p = omega arith in
    carried (f * (p / 2 ^ 64)) (f * (p % 2 ^ 64)) (f * p) (omega (arith, ap (λ z. f * z) parts))

pub returns : goal.returns
returns c = rw (and_mask c.args.power 64) (split c.args.factor c.args.power)
