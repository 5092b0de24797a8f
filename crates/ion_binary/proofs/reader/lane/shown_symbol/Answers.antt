use Rattle.ion_binary.proofs.Below.{arith, common_steps}
use Rattle.ion_binary.proofs.reader.lane.shown_symbol.Goals as goal

pub returns-in-Bare : goal.returns-in-Bare
returns-in-Bare g c = grind (arith, common_steps) steps 400000

pub returns-in-Quoted : goal.returns-in-Quoted
returns-in-Quoted g c = grind (arith, common_steps) steps 400000

pub returns-in-Any : goal.returns-in-Any
returns-in-Any g c = grind (arith, common_steps) steps 400000
