use Rattle.std.proofs.Common.{refl}
use Rattle.ion_meter.specs.Rules.{strict}
use Rattle.cozgelt_c.proofs.cozgelt_to_binary.Goals as goal

-- what the call with a profile answers for 0
pub returns : goal.returns
returns c = c.cozgelt_to_binary_with.ensures.named strict refl
