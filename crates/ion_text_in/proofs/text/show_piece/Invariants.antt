use Rattle.std.proofs.Common.{◌≡◌, ◌-◌, ◌≤◌, length, None}
use Rattle.ion_meter.specs.Windows.{Extends, lent}
use Rattle.ion_text_in.proofs.text.show_piece.Given as goal

abbrev pub invariant-more : goal.invariant-more
invariant-more g l = record {
  kept : Extends g.I.Input l.fn.source l.source;
  well : l.source.fault ≡ None;
  shown : 12 ≤ length (lent l.fn.source) → l.source ≡ l.fn.source;
  steady : g.I.Input.failure_count l.source.device ≡ g.I.Input.failure_count l.fn.source.device;
}

abbrev pub decreases-more : goal.decreases-more
decreases-more g l = 16 - length (lent l.source)
