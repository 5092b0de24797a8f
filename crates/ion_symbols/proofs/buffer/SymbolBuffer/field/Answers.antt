use Rattle.std.proofs.Common.{arith}
use Rattle.std.proofs.lemmas.Grind.{common_steps}
use Rattle.ion_symbols.proofs.buffer.SymbolBuffer.field.Goals as goal

pub returns-in_default-field : goal.returns-in_default-field
returns-in_default-field g c = grind (arith, common_steps) steps 400000

pub returns-in-Begins-List-what : goal.returns-in-Begins-List-what
returns-in-Begins-List-what g c = grind (arith, common_steps) steps 400000

pub returns-in_default-what-2 : goal.returns-in_default-what-2
returns-in_default-what-2 g c = grind (arith, common_steps) steps 800000

pub returns-in-Begins-List : goal.returns-in-Begins-List
returns-in-Begins-List g c = grind (arith, common_steps)

pub keep-requires : goal.keep-requires
keep-requires g c = grind (arith, common_steps)
