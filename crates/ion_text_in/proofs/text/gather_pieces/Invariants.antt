use Rattle.std.proofs.Common.{◌≡◌, ◌-◌, ◌≤◌, length, Ok}
use Rattle.ion_meter.specs.Sources.{cursor}
use Rattle.ion_text_in.specs.Quotes.{quote_of}
use Rattle.ion_text_in.specs.Gathered.{Gathers, onward}
use Rattle.ion_text_in.proofs.text.gather_pieces.Given as goal

abbrev pub invariant-pieces : goal.invariant-pieces
invariant-pieces g l = record {
  gathers : Gathers {T = Unit {0}} g.I.Input l.limits l.fn.source l.source l.fn.meter l.meter l.fn.text l.text (Ok tt);
  longer : length l.fn.text ≤ length l.text;
  same : g.I.Input.observable l.fn.source.device → onward (quote_of l.quote) l.limits.scalar l.fn.text (cursor g.I.Input l.fn.source) ≡ onward (quote_of l.quote) l.limits.scalar l.text (cursor g.I.Input l.source);
}

abbrev pub decreases-pieces : goal.decreases-pieces
decreases-pieces g l = l.source.limit - l.source.place
