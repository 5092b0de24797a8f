use Rattle.ion_binary.proofs.Below.{◌≡◌, ◌+◌, ◌*◌, ◌-◌, ◌≤◌, length, take, max, left, passed_over, GrowsWithin, Passed}
use Rattle.ion_binary.proofs.body.gather.Given as goal

abbrev pub invariant-loop-source : goal.invariant-loop-source
invariant-loop-source g l = record {
  passed : Passed g.I.Input l.fn.source l.source (length l.text);
  steady : g.I.Input.failure_count l.source.device ≡ g.I.Input.failure_count l.fn.source.device;
  few : length l.text ≤ l.count;
  octets : g.I.Input.observable l.fn.source.device → l.text ≡ take (length l.text) (left g.I.Input.rest l.fn.source);
  held : l.meter.held + length l.fn.text ≡ l.fn.meter.held + length l.text;
  peak : l.meter.peak ≤ max l.fn.meter.peak (l.fn.meter.held - length l.fn.text + l.fn.limits.scalar);
  rises : l.fn.meter.peak ≤ l.meter.peak;
  refused : l.meter.refused ≡ l.fn.meter.refused;
  grows : GrowsWithin l.fn.meter l.meter (length l.fn.text) (length l.text) (16 * passed_over l.fn.source l.source);
}

abbrev pub decreases-loop-source : goal.decreases-loop-source
decreases-loop-source g l = l.count - length l.text
