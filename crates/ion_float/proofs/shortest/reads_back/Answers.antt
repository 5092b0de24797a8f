use Rattle.std.proofs.Common.{◌≡◌, sym, ap, ◌∙◌, subst, arith}
use Rattle.std.specs.Prelude.{from_bits}
use Rattle.std.specs.Float.{binary64}
use Rattle.std.proofs.lemmas.Bool.{eqb-true}
use borrow.Author.Tests.{eq-eqb, ltb-true}
use Rattle.ion_value.specs.Shortest.{reads}
use Rattle.ion_float.proofs.Between.{same_float, zero-reads}
use Rattle.ion_float.proofs.Reading.{is-positive}
use Rattle.ion_float.proofs.shortest.reads_back.Goals as goal

pub returns-then-digits-gt0 : goal.returns-then-digits-gt0
returns-then-digits-gt0 c =
    let n = c.nearest_bits in
    let p = is-positive c.args.bits c.requires.above_zero in (
      λ t. sym n.ensures.0 ∙ ap (from_bits binary64) (eqb-true n.result c.args.bits t),
      λ h. eq-eqb n.result c.args.bits (same_float _ _ n.result c.args.bits p n.type_inv c.ranges.bits.fits n.ensures h),
    )

pub returns-else-digits-gt0 : goal.returns-else-digits-gt0
returns-else-digits-gt0 c =
    let none : c.args.digits ≡ 0 = omega arith in (
      λ t. absurd (omega (arith, ltb-true 0 c.args.digits t)),
      λ h. absurd (zero-reads c.args.row c.args.bits (is-positive c.args.bits c.requires.above_zero) (subst (λ d. reads d c.args.row c.args.bits) none h)),
    )
