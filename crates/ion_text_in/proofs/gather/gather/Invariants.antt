use Rattle.std.proofs.Common.{◌≡◌, ◌-◌, length, Some, Ok}
use Rattle.ion_meter.specs.Sources.{cursor}
use Rattle.ion_text_in.specs.Gathered.{Gathers}
use Rattle.ion_text_in.specs.Runs.{with_run}
use Rattle.ion_text_in.proofs.gather.gather.Given as goal

abbrev pub invariant-parts : goal.invariant-parts
invariant-parts g l = record {
  gathers : Gathers {T = Unit {0}} g.I.Input l.limits l.fn.source l.source l.fn.meter l.meter l.fn.text l.text (Ok tt);
  same : g.I.Input.observable l.fn.source.device → with_run l.run (Some l.limits.scalar) l.fn.text (cursor g.I.Input l.fn.source) ≡ with_run l.run (Some l.limits.scalar) l.text (cursor g.I.Input l.source);
}

abbrev pub decreases-parts : goal.decreases-parts
decreases-parts g l = l.limits.scalar - length l.text
