use Rattle.std.proofs.Common.{arith}
use Rattle.std.proofs.lemmas.Grind.{common_steps}
use Rattle.ion_text_in.proofs.feed.spot.to_member.Goals as goal

pub returns-then-not-at-clause-next : goal.returns-then-not-at-clause-next
returns-then-not-at-clause-next c = grind (arith, common_steps) steps 400000
