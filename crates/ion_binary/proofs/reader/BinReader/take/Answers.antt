use Rattle.ion_binary.proofs.Below.{arith, common_steps}
use Rattle.ion_binary.proofs.reader.BinReader.take.Goals as goal

pub returns-in_default : goal.returns-in_default
returns-in_default g c = grind (arith, common_steps) steps 400000

pub returns-in-Err : goal.returns-in-Err
returns-in-Err g c = grind (arith, common_steps) steps 400000

pub returns-in-Marker-clause-gives : goal.returns-in-Marker-clause-gives
returns-in-Marker-clause-gives g c = grind (arith, common_steps) steps 400000

pub returns-in-Scalar-clause-gives : goal.returns-in-Scalar-clause-gives
returns-in-Scalar-clause-gives g c = grind (arith, common_steps) steps 400000

pub returns-in-NopPad-clause-gives : goal.returns-in-NopPad-clause-gives
returns-in-NopPad-clause-gives g c = grind (arith, common_steps) steps 400000
