use Rattle.std.proofs.Common.{arith}
use Rattle.std.proofs.lemmas.Grind.{common_steps}
use Rattle.ion_meter.proofs.sink.Sink.take.Goals as goal

pub invariant_of-self : goal.invariant_of-self
invariant_of-self g c = grind (arith, common_steps) steps 400000

pub returns-clause-pending : goal.returns-clause-pending
returns-clause-pending g c = grind (arith, common_steps) steps 1500000

pub returns-clause-device : goal.returns-clause-device
returns-clause-device g c = grind (arith, common_steps)

pub slice_bounds-copy_from_slice-end-2 : goal.slice_bounds-copy_from_slice-end-2
slice_bounds-copy_from_slice-end-2 g c = grind (arith, common_steps)

pub copy_from_slice-requires : goal.copy_from_slice-requires
copy_from_slice-requires g c = grind (arith, common_steps)

pub returns-clause-count : goal.returns-clause-count
returns-clause-count g c = grind (arith, common_steps)
