use Rattle.std.proofs.Common.{◌≡◌, ◌-◌, Ok, Some, false}
use Rattle.ion_meter.specs.Sources.{cursor}
use Rattle.ion_text_in.specs.Gathered.{Gathers}
use Rattle.ion_text_in.specs.Lobs.{with_groups_after}
use Rattle.ion_text_in.specs.Scanning.{groups}
use Rattle.ion_text_in.proofs.lob.next_blob.Given as goal

abbrev pub invariant-groups : goal.invariant-groups
invariant-groups g l = record {
  gathers : Gathers {T = Unit {0}} g.I.Input l.limits l.fn.source l.source l.fn.meter l.meter l.fn.text l.text (Ok tt);
  same : g.I.Input.observable l.fn.source.device → groups (Some l.limits.scalar) 0 false (cursor g.I.Input l.fn.source) ≡ with_groups_after l.limits.scalar l.text l.padded (cursor g.I.Input l.source);
}

abbrev pub decreases-groups : goal.decreases-groups
decreases-groups g l = l.source.limit - l.source.place
