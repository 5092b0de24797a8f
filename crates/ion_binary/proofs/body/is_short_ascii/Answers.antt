use Rattle.ion_binary.proofs.Below.{arith, common_steps}
use Rattle.ion_binary.proofs.body.is_short_ascii.Goals as goal

pub returns : goal.returns
returns c = grind (arith, common_steps)
