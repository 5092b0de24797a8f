use Rattle.std.proofs.Common.{◌≤◌, length}
use Rattle.ion_transcode.proofs.in_parts.finding.line_of.Given as goal

abbrev pub invariant-loop-at : goal.invariant-loop-at
invariant-loop-at l = l.at ≤ length l.fn.bytes

abbrev pub decreases-loop-at : goal.decreases-loop-at
decreases-loop-at l = l.at
