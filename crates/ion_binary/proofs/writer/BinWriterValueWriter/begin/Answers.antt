use Rattle.ion_binary.proofs.Below.{arith, common_steps}
use Rattle.ion_binary.proofs.writer.BinWriterValueWriter.begin.Goals as goal

pub returns-in-Err-clause-passed : goal.returns-in-Err-clause-passed
returns-in-Err-clause-passed g c = grind (arith, common_steps) steps 400000

pub returns-in-Err-clause-part : goal.returns-in-Err-clause-part
returns-in-Err-clause-part g c = grind (arith, common_steps) steps 400000

pub returns-in-Err-clause-device : goal.returns-in-Err-clause-device
returns-in-Err-clause-device g c = grind (arith, common_steps) steps 400000

pub returns-in-Err-clause-sound : goal.returns-in-Err-clause-sound
returns-in-Err-clause-sound g c = grind (arith, common_steps) steps 400000

pub returns-in_default : goal.returns-in_default
returns-in_default g c = grind (arith, common_steps) steps 400000
