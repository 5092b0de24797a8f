use Rattle.std.proofs.Common.{length}
use Rattle.ion_text_in.specs.Feeding.{lane, MovedBy}
use Rattle.ion_text_in.proofs.feed.ids.id_turns.Given as goal

abbrev pub invariant-items : goal.invariant-items
invariant-items g l = MovedBy g.W.ValueWriter l.bounds (g.N.Names.text l.names) (lane l.fn.kinds l.fn.spot l.fn.writer l.fn.sink l.fn.meter) (lane l.kinds l.at l.writer l.sink l.meter)

abbrev pub decreases-items : goal.decreases-items
decreases-items g l = length l.at.rest.now
