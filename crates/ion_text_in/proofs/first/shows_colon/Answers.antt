use Rattle.std.proofs.Common.{arith}
use Rattle.std.proofs.lemmas.Grind.{common_steps}
use Rattle.ion_text_in.specs.Token.{first_at}
use Rattle.ion_text_in.specs.Blanks.{blanks_at}
use Rattle.ion_text_in.proofs.first.shows_colon.Goals as goal

pub returns-in-58-clause-first : goal.returns-in-58-clause-first
unfolding first_at blanks_at
returns-in-58-clause-first c = grind (arith, common_steps)
