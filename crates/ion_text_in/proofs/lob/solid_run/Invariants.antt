use Rattle.std.proofs.Common.{◌-◌, ◌≤◌, length}
use Rattle.ion_text_in.proofs.lob.solid_run.Given as goal

abbrev pub invariant-skip : goal.invariant-skip
invariant-skip l = l.at ≤ length l.bytes

abbrev pub decreases-skip : goal.decreases-skip
decreases-skip l = length l.bytes - l.at
