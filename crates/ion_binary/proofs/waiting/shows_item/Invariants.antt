use Rattle.std.proofs.Common.{length}
use Rattle.ion_binary.proofs.waiting.shows_item.Given as goal

abbrev pub decreases-passed : goal.decreases-passed
decreases-passed l = length l.rest
