use Rattle.std.proofs.Common.{arith}
use Rattle.std.proofs.lemmas.Grind.{common_steps}
use Rattle.ion_transcode.proofs.nothing.NoWriterValueWriter.item.Goals as goal

pub returns-in-Err-clause-again : goal.returns-in-Err-clause-again
returns-in-Err-clause-again g c = grind (arith, common_steps)

pub returns-in-Err-clause-part : goal.returns-in-Err-clause-part
returns-in-Err-clause-part g c = grind (arith, common_steps)

pub returns-in_default-outcome-clause-part : goal.returns-in_default-outcome-clause-part
returns-in_default-outcome-clause-part g c = grind (arith, common_steps)

pub returns-in-Err-clause-cut : goal.returns-in-Err-clause-cut
returns-in-Err-clause-cut g c = grind (arith, common_steps)

pub returns-in_default-outcome-clause-cut : goal.returns-in_default-outcome-clause-cut
returns-in_default-outcome-clause-cut g c = grind (arith, common_steps)

pub returns-in-Some-clause-part : goal.returns-in-Some-clause-part
returns-in-Some-clause-part g c = grind (arith, common_steps)

pub returns-in_default-outcome-clause-again : goal.returns-in_default-outcome-clause-again
returns-in_default-outcome-clause-again g c = grind (arith, common_steps)

pub returns-in-Some-clause-again : goal.returns-in-Some-clause-again
returns-in-Some-clause-again g c = grind (arith, common_steps)

pub returns-in-Some-clause-cut : goal.returns-in-Some-clause-cut
returns-in-Some-clause-cut g c = grind (arith, common_steps)

pub returns-in_default-outcome-clause-stands : goal.returns-in_default-outcome-clause-stands
returns-in_default-outcome-clause-stands g c = grind (arith, common_steps)

pub returns-in-Err-clause-quiet : goal.returns-in-Err-clause-quiet
returns-in-Err-clause-quiet g c = grind (arith, common_steps)

pub returns-in_default-outcome-clause-quiet : goal.returns-in_default-outcome-clause-quiet
returns-in_default-outcome-clause-quiet g c = grind (arith, common_steps)

pub returns-in-Err-clause-passed : goal.returns-in-Err-clause-passed
returns-in-Err-clause-passed g c = grind (arith, common_steps)

pub returns-in_default-outcome-clause-causes : goal.returns-in_default-outcome-clause-causes
returns-in_default-outcome-clause-causes g c = grind (arith, common_steps)

pub returns-in-Err-clause-causes : goal.returns-in-Err-clause-causes
returns-in-Err-clause-causes g c = grind (arith, common_steps)

pub returns-in_default-outcome-clause-passed : goal.returns-in_default-outcome-clause-passed
returns-in_default-outcome-clause-passed g c = grind (arith, common_steps)

pub returns-in-Err-clause-memory : goal.returns-in-Err-clause-memory
returns-in-Err-clause-memory g c = grind (arith, common_steps)

pub returns-in_default-outcome-clause-memory : goal.returns-in_default-outcome-clause-memory
returns-in_default-outcome-clause-memory g c = grind (arith, common_steps)
