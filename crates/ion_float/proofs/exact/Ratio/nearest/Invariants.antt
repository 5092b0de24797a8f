use Rattle.std.proofs.Common.{◌-◌, ◌*◌, ◌^◌, ◌<◌, ◌≤◌}
use lib.Ieee.Nearest.{closest}
use Rattle.ion_float.proofs.exact.Ratio.nearest.Given as goal

abbrev pub invariant-loop-high : goal.invariant-loop-high
invariant-loop-high l = record {
  reached : l.low ≤ closest l.self.twice (2 * l.self.unit);
  above : closest l.self.twice (2 * l.self.unit) < l.high;
  few : l.high ≤ 10 ^ 17;
}

abbrev pub decreases-loop-high : goal.decreases-loop-high
decreases-loop-high l = l.high - l.low
