use Rattle.std.proofs.Common.{length}
use Rattle.ion_text_in.proofs.waiting.shows_item.Given as goal

abbrev pub decreases-parts : goal.decreases-parts
decreases-parts l = length l.rest
