use Rattle.std.proofs.Common.{◌≡◌, ℕ, ◌+◌, ◌*◌, ◌/◌, ◌^◌, ◌<◌, length, get_or}
use Rattle.ion_value.specs.Number.{var_uint}
use Rattle.ion_value.proofs.var.octets.Given as goal

abbrev pub invariant-loop-i : goal.invariant-loop-i
invariant-loop-i l = record {
  so_far : var_uint l.octets.items ≡ l.n / 2 ^ (7 * l.i);
  len : length l.octets.items + l.i ≡ l.count;
  some : 0 < l.i;
  low : (k : ℕ) → k < length l.octets.items → get_or l.octets.items k 0 < 128;
}
