use Rattle.std.proofs.Common.{◌≡◌, length}
use Rattle.ion_value.specs.Number.{uint}
use Rattle.ion_value.proofs.int.without_zeros.Given as goal

abbrev pub invariant-loop-rest : goal.invariant-loop-rest
invariant-loop-rest l = uint l.rest ≡ uint l.initial.bytes

abbrev pub decreases-loop-rest : goal.decreases-loop-rest
decreases-loop-rest l = length l.rest
