use Rattle.std.proofs.Common.{arith}
use Rattle.std.proofs.lemmas.Grind.{common_steps}
use Rattle.ion_text_in.proofs.quick.few_after.Goals as goal

pub pair-requires-clause-ones : goal.pair-requires-clause-ones
pair-requires-clause-ones c = grind (arith, common_steps) steps 400000

pub pair-requires-clause-tens : goal.pair-requires-clause-tens
pair-requires-clause-tens c = grind (arith, common_steps) steps 400000

pub pair-requires-in-len3-clause-tens : goal.pair-requires-in-len3-clause-tens
pair-requires-in-len3-clause-tens c = grind (arith, common_steps) steps 400000

pub returns-in-len1 : goal.returns-in-len1
returns-in-len1 c = grind (arith, common_steps) steps 400000

pub digit-requires-in-len3 : goal.digit-requires-in-len3
digit-requires-in-len3 c = grind (arith, common_steps) steps 400000

pub pair-requires-in-len3-clause-ones : goal.pair-requires-in-len3-clause-ones
pair-requires-in-len3-clause-ones c = grind (arith, common_steps) steps 400000

pub returns-in-len2 : goal.returns-in-len2
returns-in-len2 c = grind (arith, common_steps)

pub returns-in-len3 : goal.returns-in-len3
returns-in-len3 c = grind (arith, common_steps)

pub digit-requires : goal.digit-requires
digit-requires c = grind (arith, common_steps)

pub returns-in_default : goal.returns-in_default
returns-in_default c = grind (arith, common_steps)
