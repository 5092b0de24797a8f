use Rattle.std.proofs.Common.{◌-◌, length}
use Rattle.ion_value.proofs.TimestampOctets.{SoFar}
use Rattle.ion_value.proofs.timestamp.number_fields.Given as goal

abbrev pub invariant-loop-numbers : goal.invariant-loop-numbers
invariant-loop-numbers l = SoFar l.bytes l.rest l.numbers.items

abbrev pub decreases-loop-numbers : goal.decreases-loop-numbers
decreases-loop-numbers l = 6 - length l.numbers.items
