use Rattle.std.proofs.Common.{◌≡◌, ◌+◌}
use Rattle.ion_symbols.proofs.Seeking.{Seeking}
use Rattle.ion_symbols.proofs.lookup.seek.Given as goal

-- the text is come to from here, where it is there, and as many were passed as are not left
abbrev pub invariant-loop-left : goal.invariant-loop-left
invariant-loop-left g l = record {
  kept : l.probe.kept.now ≡ l.fn.probe.kept.now;
  seeks : Seeking l.fn.probe.kept.now l.text l.at l.left l.digits;
  probes : l.probe.probes + l.left ≡ l.fn.probe.probes + 32;
}

abbrev pub decreases-loop-left : goal.decreases-loop-left
decreases-loop-left g l = l.left
