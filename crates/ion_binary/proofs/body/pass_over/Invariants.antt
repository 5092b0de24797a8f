use Rattle.ion_binary.proofs.Below.{◌≡◌, ◌-◌, ◌≤◌, Passed}
use Rattle.ion_binary.proofs.body.pass_over.Given as goal

abbrev pub invariant-loop-more : goal.invariant-loop-more
invariant-loop-more g l = record {
  passed : Passed g.I.Input l.fn.source l.source (l.count - l.more);
  steady : g.I.Input.failure_count l.source.device ≡ g.I.Input.failure_count l.fn.source.device;
  fewer : l.more ≤ l.count;
}

abbrev pub decreases-loop-more : goal.decreases-loop-more
decreases-loop-more g l = l.more
