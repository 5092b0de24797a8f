use Rattle.std.proofs.Common.{◌≡◌, ◌-◌, Some, Ok}
use Rattle.ion_meter.specs.Sources.{cursor}
use Rattle.ion_text_in.specs.Gathered.{Gathers}
use Rattle.ion_text_in.specs.Quoted.{text_at}
use Rattle.ion_text_in.specs.Quotes.{quote_of}
use Rattle.ion_text_in.proofs.SegmentTexts.{after_text}
use Rattle.ion_text_in.proofs.text.next_long_text.Given as goal

abbrev pub invariant-segments : goal.invariant-segments
invariant-segments g l = record {
  gathers : Gathers {T = Unit {0}} g.I.Input l.limits l.fn.source l.source l.fn.meter l.meter l.fn.text l.text (Ok tt);
  same : g.I.Input.observable l.fn.source.device → text_at (quote_of l.quote) (Some l.limits.scalar) (cursor g.I.Input l.fn.source) ≡ after_text (quote_of l.quote) l.limits.scalar l.text (cursor g.I.Input l.source);
}

abbrev pub decreases-segments : goal.decreases-segments
decreases-segments g l = l.source.limit - l.source.place
