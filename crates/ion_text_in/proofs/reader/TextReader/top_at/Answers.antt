use Rattle.std.proofs.Common.{arith}
use Rattle.std.proofs.lemmas.Grind.{common_steps}
use Rattle.ion_text_in.proofs.reader.TextReader.top_at.Goals as goal

pub returns-in-None : goal.returns-in-None
returns-in-None g c = grind (arith, common_steps) steps 400000

pub returns-in-Some-Text : goal.returns-in-Some-Text
returns-in-Some-Text g c = grind (arith, common_steps) steps 400000
