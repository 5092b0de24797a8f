use Rattle.std.proofs.Common.{◌≡◌, ℕ, ◌^◌, ◌<◌, take, get_or}
use Rattle.ion_value.specs.Number.{var_uint}
use Rattle.ion_value.proofs.var.var_uint_read.Given as goal

abbrev pub invariant-loop-i : goal.invariant-loop-i
invariant-loop-i l = record {
  so_far : l.value ≡ var_uint (take l.i l.bytes);
  small : l.value < 128 ^ l.i;
  unended : (k : ℕ) → k < l.i → get_or l.bytes k 0 < 128;
}
