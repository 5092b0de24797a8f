use Rattle.std.proofs.Common.{arith}
use Rattle.std.proofs.lemmas.Grind.{common_steps, elements}
use Rattle.ion_meter.proofs.source.Source.peek.Goals as goal

pub returns-then-at-self-clause-byte : goal.returns-then-at-self-clause-byte
returns-then-at-self-clause-byte g c = grind (arith, elements)

pub returns-then-at-self-clause-there : goal.returns-then-at-self-clause-there
returns-then-at-self-clause-there g c = grind (arith, elements)

pub returns-then-at-self-clause-gives : goal.returns-then-at-self-clause-gives
returns-then-at-self-clause-gives g c = grind (arith, elements)

pub returns-clause-there : goal.returns-clause-there
returns-clause-there g c = grind (arith, elements) steps 400000

pub returns-then-at-self-clause-kept : goal.returns-then-at-self-clause-kept
returns-then-at-self-clause-kept g c = grind (arith, common_steps)

pub returns-clause-past : goal.returns-clause-past
returns-clause-past g c = grind (arith, common_steps)
