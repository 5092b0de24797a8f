use Rattle.std.proofs.Common.{length}
use Rattle.ion_text_in.specs.Feeding.{lane, Moved}
use Rattle.ion_text_in.proofs.feed.feed_frequent.Given as goal

abbrev pub invariant-items : goal.invariant-items
invariant-items g l = Moved g.W.ValueWriter (record { limits = l.limits; end = l.end }) (lane l.fn.kinds l.fn.spot l.fn.writer l.fn.sink l.fn.meter) (lane l.kinds l.at l.writer l.sink l.meter)

abbrev pub decreases-items : goal.decreases-items
decreases-items g l = length l.at.rest.now
