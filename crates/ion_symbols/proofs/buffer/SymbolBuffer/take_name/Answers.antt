use Rattle.std.proofs.Common.{arith}
use Rattle.std.proofs.lemmas.Grind.{common_steps}
use Rattle.ion_symbols.proofs.buffer.SymbolBuffer.take_name.Goals as goal

pub returns-in_err-extend-clause-takes : goal.returns-in_err-extend-clause-takes
returns-in_err-extend-clause-takes g c = grind (arith, common_steps)

pub extend-requires-clause-room : goal.extend-requires-clause-room
extend-requires-clause-room g c = grind (arith, common_steps)

pub returns-clause-pending : goal.returns-clause-pending
returns-clause-pending g c = grind (arith, common_steps)

pub returns-clause-takes : goal.returns-clause-takes
returns-clause-takes g c = grind (arith, common_steps)

pub returns-clause-turn : goal.returns-clause-turn
returns-clause-turn g c = grind (arith, common_steps)

pub returns-then-not-fits-clause-takes : goal.returns-then-not-fits-clause-takes
returns-then-not-fits-clause-takes g c = grind (arith, common_steps)
