use Rattle.std.proofs.Common.{◌≡◌, ◌-◌}
use Rattle.ion_meter.specs.Sources.{cursor}
use Rattle.ion_value.specs.Digits.{first_is}
use Rattle.ion_text_in.specs.Places.{after_run}
use Rattle.ion_text_in.specs.Overrun.{stays_in}
use Rattle.ion_text_in.proofs.Turns.{Gone}
use Rattle.ion_text_in.proofs.blank.pass_run.Given as goal

abbrev pub invariant-run : goal.invariant-run
invariant-run g l = record {
  gone : Gone g.I.Input l.fn.source l.source;
  after : g.I.Input.observable l.fn.source.device
      → after_run (first_is (stays_in l.comment)) (cursor g.I.Input l.source) ≡ after_run (first_is (stays_in l.comment)) (cursor g.I.Input l.fn.source);
}

abbrev pub decreases-run : goal.decreases-run
decreases-run g l = l.source.limit - l.source.place
