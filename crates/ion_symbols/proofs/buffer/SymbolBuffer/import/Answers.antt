use Rattle.std.proofs.Common.{arith}
use Rattle.std.proofs.lemmas.Grind.{common_steps}
use Rattle.ion_symbols.proofs.buffer.SymbolBuffer.import.Goals as goal

pub returns-in-Ends-clause-pending : goal.returns-in-Ends-clause-pending
returns-in-Ends-clause-pending g c = grind (arith, common_steps)

pub returns-in-Begins-Struct-clause-pending : goal.returns-in-Begins-Struct-clause-pending
returns-in-Begins-Struct-clause-pending g c = grind (arith, common_steps)

pub returns-in_default-clause-pending : goal.returns-in_default-clause-pending
returns-in_default-clause-pending g c = grind (arith, common_steps)
