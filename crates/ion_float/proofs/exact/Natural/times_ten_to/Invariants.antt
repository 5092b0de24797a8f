use Rattle.std.proofs.Common.{◌≡◌, ◌*◌, ◌^◌}
use Rattle.ion_float.proofs.exact.Natural.times_ten_to.Given as goal

abbrev pub invariant-loop-left : goal.invariant-loop-left
invariant-loop-left l = l.self * 10 ^ l.left ≡ l.fn.self * 10 ^ l.power

abbrev pub decreases-loop-left : goal.decreases-loop-left
decreases-loop-left l = l.left
