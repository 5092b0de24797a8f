use Rattle.std.proofs.Common.{◌-◌, length}
use Rattle.ion_symbols.proofs.PuttingInOrder.{Putting}
use Rattle.ion_symbols.proofs.out_texts.OutTexts.put_in_order.Given as goal

-- so many of them are in order
abbrev pub invariant-loop-count : goal.invariant-loop-count
invariant-loop-count g l = Putting l.fn.self l.self l.count

abbrev pub decreases-loop-count : goal.decreases-loop-count
decreases-loop-count g l = length l.self.places.items - l.count
