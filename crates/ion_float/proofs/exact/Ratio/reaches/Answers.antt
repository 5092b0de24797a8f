use Rattle.std.proofs.Common.{◌≡◌, ℕ, ◌+◌, ◌-◌, ◌*◌, ◌%◌, ◌<◌, ◌≤◌, refl, ap, sym, ◌∙◌, arith}
use Rattle.std.proofs.lemmas.Bool.{eqb-true, false≢true}
use borrow.Author.Tests.{eq-eqb}
use lib.Ieee.Nearest.{closest}
use Rattle.ion_float.proofs.Limbs.{cmp-says_less, cmp-says_equal, cmp-says_greater}
use Rattle.ion_float.proofs.Nearness.{reached, not_reached, halfway}
use Rattle.ion_float.proofs.exact.Ratio.reaches.Goals as goal

-- the point below `digits` multiples
odd : (unit digits : ℕ) → 0 < digits → unit * (2 * digits - 1) ≡ (2 * (digits - 1) + 1) * unit
odd unit digits p =
    let e : 2 * digits - 1 ≡ 2 * (digits - 1) + 1 = omega arith in
    ap (λ k. unit * k) e ∙ omega arith

pub returns-in-Less : goal.returns-in-Less
returns-in-Less c =
    let r = c.args.self.now in
    let d = c.args.digits in
    let above : 0 < d = omega arith in
    let h = cmp-says_less (r.unit * (2 * d - 1)) r.twice (sym c.in-Less.is ∙ c.compare_multiple.ensures) in
    let g = reached r.twice r.unit (d - 1) r.some (rw (odd r.unit d above) at h) in
    (λ t. omega (arith, g), λ _. refl)

even : (d : ℕ) → 0 < d → (q : ℕ) → q ≡ d - 1 + (d - 1) % 2 → (d % 2 ≡ 0 → d ≤ q) × (d ≤ q → d % 2 ≡ 0)
even d p q e = (λ z. omega arith, λ h. omega arith)

pub returns-in-Equal : goal.returns-in-Equal
returns-in-Equal c =
    let r = c.args.self.now in
    let d = c.args.digits in
    let above : 0 < d = omega arith in
    let h = cmp-says_equal (r.unit * (2 * d - 1)) r.twice (sym c.in-Equal.is ∙ c.compare_multiple.ensures) in
    let g = halfway r.twice r.unit (d - 1) r.some (rw (odd r.unit d above) at h) in
    let both = even d above (closest r.twice (2 * r.unit)) g in
    (λ t. both.0 (eqb-true _ _ t), λ l. eq-eqb _ _ (both.1 l))

pub returns-in-Greater : goal.returns-in-Greater
returns-in-Greater c =
    let r = c.args.self.now in
    let d = c.args.digits in
    let above : 0 < d = omega arith in
    let h = cmp-says_greater (r.unit * (2 * d - 1)) r.twice (sym c.in-Greater.is ∙ c.compare_multiple.ensures) in
    let g = not_reached r.twice r.unit (d - 1) r.some (rw (odd r.unit d above) at h) in
    (λ t. absurd (false≢true t), λ l. absurd (omega (arith, g)))
