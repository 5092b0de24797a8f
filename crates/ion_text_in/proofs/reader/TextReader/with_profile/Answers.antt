use Rattle.std.proofs.Common.{arith}
use Rattle.std.proofs.lemmas.Grind.{common_steps}
use Rattle.ion_text_in.proofs.reader.TextReader.with_profile.Goals as goal

pub returns-clause-holds : goal.returns-clause-holds
returns-clause-holds g c = grind (arith, common_steps)
