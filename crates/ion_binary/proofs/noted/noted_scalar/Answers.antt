use Rattle.ion_binary.proofs.Below.{arith, common_steps}
use Rattle.ion_binary.proofs.noted.noted_scalar.Goals as goal

pub returns : goal.returns
returns c = grind (arith, common_steps) steps 400000
