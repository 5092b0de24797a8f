use Rattle.std.proofs.Common.{arith}
use Rattle.std.proofs.lemmas.Grind.{common_steps, elements}
use Rattle.ion_meter.proofs.source.Source.peek_slowly.Goals as goal

pub returns-then-index-self-clause-byte : goal.returns-then-index-self-clause-byte
returns-then-index-self-clause-byte g c = grind (arith, elements)

pub returns-then-index-self-clause-gives : goal.returns-then-index-self-clause-gives
returns-then-index-self-clause-gives g c = grind (arith, elements)

pub returns-then-index-self-clause-reads : goal.returns-then-index-self-clause-reads
returns-then-index-self-clause-reads g c = grind (arith, elements)

pub returns-then-self-index-clause-gives : goal.returns-then-self-index-clause-gives
returns-then-self-index-clause-gives g c = grind (arith, elements)

pub returns-then-self-index-clause-ended : goal.returns-then-self-index-clause-ended
returns-then-self-index-clause-ended g c = grind (arith, elements)

pub returns-then-self-index-clause-reads : goal.returns-then-self-index-clause-reads
returns-then-self-index-clause-reads g c = grind (arith, elements)

pub returns-clause-reads : goal.returns-clause-reads
returns-clause-reads g c = grind (arith, elements) steps 400000

pub returns-clause-limit : goal.returns-clause-limit
returns-clause-limit g c = grind (arith, elements)

pub returns-clause-past : goal.returns-clause-past
returns-clause-past g c = grind (arith, common_steps)

pub returns-then-index-self-clause-stays : goal.returns-then-index-self-clause-stays
returns-then-index-self-clause-stays g c = grind (arith, common_steps)

pub returns-clause-stays : goal.returns-clause-stays
returns-clause-stays g c = grind (arith, common_steps)

pub returns-then-self-index-clause-stays : goal.returns-then-self-index-clause-stays
returns-then-self-index-clause-stays g c = grind (arith, common_steps)

pub returns-in-Some-clause-reads : goal.returns-in-Some-clause-reads
returns-in-Some-clause-reads g c = grind (arith, common_steps)

pub returns-then-index-self-clause-past : goal.returns-then-index-self-clause-past
returns-then-index-self-clause-past g c = grind (arith, common_steps)

pub returns-then-index-self-clause-needed : goal.returns-then-index-self-clause-needed
returns-then-index-self-clause-needed g c = grind (arith, common_steps)

pub returns-then-self-index-clause-past : goal.returns-then-self-index-clause-past
returns-then-self-index-clause-past g c = grind (arith, common_steps)

pub returns-clause-needed : goal.returns-clause-needed
returns-clause-needed g c = grind (arith, common_steps)

pub returns-then-self-index-clause-needed : goal.returns-then-self-index-clause-needed
returns-then-self-index-clause-needed g c = grind (arith, common_steps)

pub bounds-deref-index : goal.bounds-deref-index
bounds-deref-index g c = grind (arith, common_steps)
