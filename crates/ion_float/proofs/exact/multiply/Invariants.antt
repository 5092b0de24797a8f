use Rattle.std.proofs.Common.{◌≡◌, ℕ, ◌+◌, ◌*◌, ◌≤◌, get_or, take}
use Rattle.ion_float.specs.Limbs.{value}
use Rattle.ion_float.proofs.Limbs.{weight}
use Rattle.ion_float.proofs.exact.multiply.Given as goal

abbrev pub invariant-loop-limb : goal.invariant-loop-limb
invariant-loop-limb l = record {
  done : value (take l.limb-index l.limbs) + l.carry * weight l.limb-index ≡ value (take l.limb-index l.fn.limbs) * l.factor;
  rest : (k : ℕ) → l.limb-index ≤ k → get_or l.limbs k 0 ≡ get_or l.fn.limbs k 0;
}
