use Rattle.std.proofs.Common.{◌≡◌, ◌+◌, ◌==◌, drop, length}
use Rattle.ion_value.specs.Digits.{cut_at}
use Rattle.ion_value.proofs.name.cut_at_underscore.Given as goal

abbrev pub invariant-bytes : goal.invariant-bytes
invariant-bytes l = length (cut_at (λ b. b == 95) l.bytes).0 ≡ l.i + length (cut_at (λ b. b == 95) (drop l.i l.bytes)).0
