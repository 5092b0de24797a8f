use Rattle.ion_binary.proofs.Below.{◌≡◌, ◌-◌, length, Moves, Stands, cursor, lent}
use Rattle.ion_binary.proofs.window.next_part.Given as goal

abbrev pub invariant-scans : goal.invariant-scans
invariant-scans g l = record {
  stands : Stands l.source;
  moves : Moves g.I.Input l.fn.source l.source;
  steady : g.I.Input.failure_count l.source.device ≡ g.I.Input.failure_count l.fn.source.device;
  place : l.source.place ≡ l.fn.source.place;
  same : g.I.Input.observable l.fn.source.device → cursor g.I.Input l.source ≡ cursor g.I.Input l.fn.source;
}

abbrev pub decreases-scans : goal.decreases-scans
decreases-scans g l = 16 - length (lent l.source)
