use Rattle.std.proofs.Common.{◌≡◌, ℕ, ◌+◌, ◌-◌, ◌*◌, ◌<◌, ap, arith}
use borrow.Author.Tests.{leb-true}
use Rattle.ion_float.proofs.bounds.lies_clear.Goals as goal

split : (r u : ℕ) → r < 10 → (20 - 2 * r) * u + 2 * r * u ≡ 20 * u
split r u h =
    let sum : 20 - 2 * r + 2 * r ≡ 20 = omega arith in
    omega (arith, ap (λ z. z * u) sum)

pub returns-then-offset-half-clause-above : goal.returns-then-offset-half-clause-above
returns-then-offset-half-clause-above c t = omega (arith, leb-true _ _ t, split c.args.rest c.args.unit (omega arith))
