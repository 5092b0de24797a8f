use Rattle.std.proofs.Common.{◌<◌, length, refl, ◌∙◌, arith, get_or-set_other}
use lib.Bits.{and_mask}
use Rattle.ion_float.proofs.Limbs.{weight-suc, value-nil, value-take_more, value-take_set, multiply_step}
use Rattle.ion_float.proofs.exact.multiply.Goals as goal

pub loop-limb-init : goal.loop-limb-init
loop-limb-init c = record { done = rw value-nil (omega arith); rest = λ k h. refl }

pub loop-limb-preserved : goal.loop-limb-preserved
loop-limb-preserved c =
    let l = c.loop-limb in
    let within : l.limb-index < length l.limbs = omega arith in
    let same = l.invariant.rest l.limb-index (omega arith) in
    record {
      done = rw (and_mask _ 64, value-take_set l.limbs l.limb-index _ within, value-take_more c.args.limbs.now l.limb-index, weight-suc l.limb-index, ← same) (multiply_step _ _ _ _ _ _ l.invariant.done);
      rest = λ k h. get_or-set_other l.limbs l.limb-index k _ 0 (λ e. omega arith) ∙ l.invariant.rest k (omega arith);
    }
