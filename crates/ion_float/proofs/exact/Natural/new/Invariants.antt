use Rattle.std.proofs.Common.{◌≡◌, length}
use Rattle.ion_float.specs.Limbs.{value}
use Rattle.ion_float.proofs.exact.Natural.new.Given as goal

abbrev pub invariant-loop : goal.invariant-loop
invariant-loop l = record { none : value l.limbs.items ≡ 0; long : length l.limbs.items ≡ l.counter }
