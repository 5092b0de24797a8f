use Rattle.std.proofs.Common.{◌≡◌, ℕ, ◌+◌, ◌-◌, ◌≤◌, [], length, IfSome}
use Rattle.ion_meter.specs.Sources.{cursor}
use Rattle.ion_meter.specs.Windows.{left, lent}
use Rattle.ion_text_in.specs.Blanks.{blanks}
use Rattle.ion_text_in.specs.Overrun.{overrun, EndsWhite}
use Rattle.ion_text_in.proofs.Turns.{Gone}
use Rattle.ion_text_in.proofs.first.next_ahead.Given as goal

abbrev pub invariant-more : goal.invariant-more
invariant-more g l = record {
  gone : Gone g.I.Input l.fn.source l.source;
  blank : g.I.Input.observable l.fn.source.device → blanks (cursor g.I.Input l.fn.source) ≡ overrun l.unfinished (cursor g.I.Input l.source);
  shown : (n : ℕ) → EndsWhite (lent l.fn.source) n → n + 5 ≤ length (lent l.fn.source) → (l.source.device ≡ l.fn.source.device) × (5 ≤ length (lent l.source));
  used_up : g.I.Input.observable l.fn.source.device → IfSome l.unfinished (λ _. left g.I.Input.rest l.source ≡ []);
}

abbrev pub decreases-more : goal.decreases-more
decreases-more g l = 5 - length (lent l.source)
