use Rattle.std.proofs.Common.{◌≡◌, Ok, false}
use Rattle.ion_meter.specs.Sources.{cursor}
use Rattle.ion_text_in.specs.Gathered.{Gathers}
use Rattle.ion_text_in.specs.Lobs.{with_groups_after}
use Rattle.ion_text_in.proofs.lob.take_blocks.Given as goal

abbrev pub invariant-pieces : goal.invariant-pieces
invariant-pieces g l = record {
  gathers : Gathers {T = Unit {0}} g.I.Input l.limits l.fn.source l.source l.fn.meter l.meter l.fn.text l.text (Ok tt);
  same : g.I.Input.observable l.fn.source.device
      → with_groups_after l.limits.scalar l.fn.text false (cursor g.I.Input l.fn.source) ≡ with_groups_after l.limits.scalar l.text false (cursor g.I.Input l.source);
}

abbrev pub decreases-pieces : goal.decreases-pieces
decreases-pieces g l = l.run
