use Rattle.std.proofs.Common.{arith}
use Rattle.std.proofs.lemmas.Grind.{common_steps}
use Rattle.ion_text_in.specs.Token.{token_of}
use Rattle.ion_text_in.proofs.number.next_infinity.Goals as goal

pub returns-clause-reads : goal.returns-clause-reads
unfolding token_of
returns-clause-reads g c = grind (arith, common_steps)

pub consume-requires : goal.consume-requires
unfolding token_of
consume-requires g c = grind (arith, common_steps) steps 400000

pub returns-then-limits-lt4-clause-reads : goal.returns-then-limits-lt4-clause-reads
unfolding token_of
returns-then-limits-lt4-clause-reads g c = grind (arith, common_steps) steps 400000
