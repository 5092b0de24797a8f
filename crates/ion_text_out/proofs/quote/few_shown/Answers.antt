use Rattle.ion_text_out.proofs.Below.{arith, common_steps}
use Rattle.ion_text_out.proofs.quote.few_shown.Goals as goal

pub loop-i-preserved : goal.loop-i-preserved
loop-i-preserved c = grind (arith, common_steps)

pub returns-then-not-is_shown-clause-ends : goal.returns-then-not-is_shown-clause-ends
returns-then-not-is_shown-clause-ends c = grind (arith, common_steps)

pub returns-clause-ends : goal.returns-clause-ends
returns-clause-ends c = grind (arith, common_steps)

pub returns-then-not-is_shown-clause-within : goal.returns-then-not-is_shown-clause-within
returns-then-not-is_shown-clause-within c = grind (arith, common_steps)
