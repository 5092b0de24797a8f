use Rattle.std.proofs.Common.{◌≡◌, ℕ, ◌+◌, ◌≤◌, length}
use Rattle.ion_value.specs.DigitReading.{in_128, read_digits}
use Rattle.ion_value.proofs.digits.long.Given as goal

abbrev pub invariant-loop-rest : goal.invariant-loop-rest
invariant-loop-rest g l = record {
  so_far : (n : ℕ) → l.fn.start ≡ in_128 n → (m : ℕ) × (l.number ≡ in_128 m)
      × (read_digits g.row.BASE m l.after l.count l.rest ≡ read_digits g.row.BASE n l.fn.after l.fn.count l.fn.bytes);
  room : l.count + length l.rest ≤ l.fn.count + length l.fn.bytes;
}

abbrev pub decreases-loop-rest : goal.decreases-loop-rest
decreases-loop-rest g l = length l.rest
