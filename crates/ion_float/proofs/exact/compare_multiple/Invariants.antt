use Rattle.std.proofs.Common.{◌≡◌, ℕ, ◌+◌, ◌*◌, ◌<◌, take}
use Rattle.std.specs.Ordering.{nat_cmp}
use Rattle.ion_float.specs.Limbs.{value}
use Rattle.ion_float.proofs.Limbs.{weight}
use Rattle.ion_float.proofs.exact.compare_multiple.Given as goal

abbrev pub invariant-loop-index : goal.invariant-loop-index
invariant-loop-index l = (low : ℕ) × record {
  below : low < weight l.index;
  done : low + l.carry * weight l.index ≡ value (take l.index l.limbs) * l.factor;
  order : l.order ≡ nat_cmp low (value (take l.index l.others));
}
