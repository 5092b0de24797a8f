use Rattle.ion_binary.proofs.Below.{arith, common_steps}
use Rattle.ion_binary.proofs.reader.BinReader.release.Goals as goal

pub returns : goal.returns
returns g c = grind (arith, common_steps) steps 400000
