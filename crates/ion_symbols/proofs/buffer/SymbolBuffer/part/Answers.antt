use Rattle.std.proofs.Common.{arith}
use Rattle.std.proofs.lemmas.Grind.{common_steps}
use Rattle.ion_symbols.proofs.buffer.SymbolBuffer.part.Goals as goal

pub returns-after-item_view-4-clause-pending : goal.returns-after-item_view-4-clause-pending
returns-after-item_view-4-clause-pending g c = grind (arith, common_steps)

pub take_name-requires-clause-can_take : goal.take_name-requires-clause-can_take
take_name-requires-clause-can_take g c = grind (arith, common_steps)

pub returns-after-item_view-3-clause-pending : goal.returns-after-item_view-3-clause-pending
returns-after-item_view-3-clause-pending g c = grind (arith, common_steps)

pub returns-in-Text-clause-takes : goal.returns-in-Text-clause-takes
returns-in-Text-clause-takes g c = grind (arith, common_steps)

pub returns-after-item_view-3-clause-takes : goal.returns-after-item_view-3-clause-takes
returns-after-item_view-3-clause-takes g c = grind (arith, common_steps)

pub returns-after-item_view-4-clause-takes : goal.returns-after-item_view-4-clause-takes
returns-after-item_view-4-clause-takes g c = grind (arith, common_steps)

pub returns-then-self-3-clause-takes : goal.returns-then-self-3-clause-takes
returns-then-self-3-clause-takes g c = grind (arith, common_steps)

pub returns-then-self-2-clause-takes : goal.returns-then-self-2-clause-takes
returns-then-self-2-clause-takes g c = grind (arith, common_steps)
