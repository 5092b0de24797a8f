use Rattle.std.proofs.Common.{arith}
use Rattle.std.proofs.lemmas.Grind.{common_steps}
use Rattle.ion_transcode.proofs.run.text.Goals as goal

pub write-outcome-requires-clause-reader : goal.write-outcome-requires-clause-reader
write-outcome-requires-clause-reader g c = grind (arith, common_steps)

pub returns-clause-charges : goal.returns-clause-charges
returns-clause-charges g c = grind (arith, common_steps)

pub returns-clause-bytes : goal.returns-clause-bytes
returns-clause-bytes g c = grind (arith, common_steps)

pub returns-clause-input : goal.returns-clause-input
returns-clause-input g c = grind (arith, common_steps)
