use Rattle.std.proofs.Common.{◌≡◌, ◌+◌, ◌≤◌, false, length}
use Rattle.ion_value.specs.DigitReading.{read_digits}
use Rattle.ion_value.proofs.digits.short.Given as goal

abbrev pub invariant-loop-rest : goal.invariant-loop-rest
invariant-loop-rest g l = record {
  so_far : read_digits g.row.BASE l.number l.after l.count l.rest ≡ read_digits g.row.BASE l.fn.start false 0 l.fn.bytes;
  room : l.count + length l.rest ≤ length l.fn.bytes;
}

abbrev pub decreases-loop-rest : goal.decreases-loop-rest
decreases-loop-rest g l = length l.rest
