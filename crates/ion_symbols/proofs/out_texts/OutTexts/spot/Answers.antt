use Rattle.std.proofs.Common.{arith}
use Rattle.std.proofs.lemmas.Grind.{common_steps}
use Rattle.ion_symbols.proofs.out_texts.OutTexts.spot.Goals as goal

pub returns-in-TooFar-clause-new : goal.returns-in-TooFar-clause-new
returns-in-TooFar-clause-new g c = grind (arith, common_steps)

pub returns-in-TooFar-clause-there : goal.returns-in-TooFar-clause-there
returns-in-TooFar-clause-there g c = grind (arith, common_steps)
