use Rattle.std.proofs.Common.{arith, sym, ◌<◌, get_or}
use Rattle.ion_value.proofs.Numbers.{uint-large}
use Rattle.std.proofs.lemmas.Grind.{common_steps}
use Rattle.ion_value.proofs.int.without_zeros.Goals as goal

pub returns-in_default-2-clause-large : goal.returns-in_default-2-clause-large
returns-in_default-2-clause-large c =
    λ long.
    let first : 0 < get_or c.loop-rest.rest.now 0 0 = omega arith in
    rw (sym c.loop-rest.invariant) (uint-large c.loop-rest.rest.now first long)

pub loop-rest-preserved : goal.loop-rest-preserved
loop-rest-preserved c = grind (arith, common_steps)
