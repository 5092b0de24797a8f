use Rattle.std.proofs.Common.{refl, sym, arith, inl, inr}
use Rattle.std.proofs.lemmas.Bool.{false≢true}
use native.Mathlib.Nat.{not-le_of_lt}
use Rattle.ion_float.proofs.Ends.{passes}
use Rattle.ion_float.proofs.Reading.{is-positive}
use Rattle.ion_float.proofs.Search.{shortest_is}
use Rattle.ion_float.proofs.shortest.is_shortest.Goals as goal

pub returns-then-digits-ge-MOST-clause-exact : goal.returns-then-digits-ge-MOST-clause-exact
returns-then-digits-ge-MOST-clause-exact c = (
  λ t. absurd (false≢true t),
  λ e.
      let it = passes c.args.bits c.args.found.digits c.args.found.row c.requires.above_zero e in
      absurd (elim c.then-digits-ge-MOST.either [
        | inl many ↦ not-le_of_lt it.few many
        | inr w ↦ not-le_of_lt it.within w.1
      ]),
)

pub returns-then-is_surely_shortest-clause-exact : goal.returns-then-is_surely_shortest-clause-exact
returns-then-is_surely_shortest-clause-exact c =
    let found = c.args.found in
    let sure = c.is_surely_shortest.ensures in
    let t = c.if-is_surely_shortest.true in
    (λ h. sym (shortest_is c.args.bits found.digits found.row c.ranges.bits.fits (omega arith) (is-positive c.args.bits c.requires.above_zero) (sure.read t) (sure.last t) (sure.nearest t)), λ e. refl)
