use Rattle.std.proofs.Common.{arith}
use Rattle.std.proofs.lemmas.Grind.{common_steps}
use Rattle.ion_value.proofs.timestamp.Timestamp.date.Goals as goal

pub unwrap-requires : goal.unwrap-requires
unwrap-requires c = grind (arith, common_steps)

pub returns : goal.returns
returns c = grind (arith, common_steps)
