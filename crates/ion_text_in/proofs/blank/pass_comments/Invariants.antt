use Rattle.std.proofs.Common.{◌≡◌, ◌-◌}
use Rattle.ion_meter.specs.Sources.{cursor}
use Rattle.ion_text_in.specs.Blanks.{blanks}
use Rattle.ion_text_in.specs.Overrun.{within}
use Rattle.ion_text_in.proofs.Turns.{Gone}
use Rattle.ion_text_in.proofs.blank.pass_comments.Given as goal

abbrev pub invariant-blanks : goal.invariant-blanks
invariant-blanks g l = record {
  gone : Gone g.I.Input l.fn.source l.source;
  after : g.I.Input.observable l.fn.source.device → blanks (cursor g.I.Input l.fn.source) ≡ within l.comment l.start (cursor g.I.Input l.source);
}

abbrev pub decreases-blanks : goal.decreases-blanks
decreases-blanks g l = l.source.limit - l.source.place
