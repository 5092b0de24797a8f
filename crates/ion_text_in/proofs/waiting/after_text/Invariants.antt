use Rattle.std.proofs.Common.{◌≤◌, length}
use Rattle.ion_text_in.proofs.waiting.after_text.Given as goal

abbrev pub invariant-text : goal.invariant-text
invariant-text l = length l.rest ≤ length l.bytes

abbrev pub decreases-text : goal.decreases-text
decreases-text l = length l.rest
