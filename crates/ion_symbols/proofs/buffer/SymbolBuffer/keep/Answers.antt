use Rattle.std.proofs.Common.{arith}
use Rattle.std.proofs.lemmas.Grind.{common_steps}
use Rattle.ion_symbols.proofs.buffer.SymbolBuffer.keep.Goals as goal

pub returns-clause-pending : goal.returns-clause-pending
returns-clause-pending g c = grind (arith, common_steps) steps 400000

pub returns-clause-turn : goal.returns-clause-turn
returns-clause-turn g c = grind (arith, common_steps) steps 400000

pub overflow_add-self-2 : goal.overflow_add-self-2
overflow_add-self-2 g c = grind (arith, common_steps)
