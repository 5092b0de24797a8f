use Rattle.std.proofs.Common.{◌≡◌, ◌+◌, ◌≤◌}
use Rattle.std.specs.Prelude.{max, None}
use Rattle.ion_transcode.specs.Bound.{share_as}
use Rattle.ion_transcode.proofs.in_parts.choose.Given as goal

abbrev pub invariant-tries : goal.invariant-tries
invariant-tries g l = record {
  refused : l.meter.refused ≡ l.fn.meter.refused;
  held : l.meter.held ≡ l.fn.meter.held;
  peak : l.meter.peak ≤ max l.fn.meter.peak (l.fn.meter.held + (8192 + share_as l.fn.reads.limits None));
}

abbrev pub decreases-tries : goal.decreases-tries
decreases-tries g l = l.most
