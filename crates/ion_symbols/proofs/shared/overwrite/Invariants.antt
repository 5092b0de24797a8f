use Rattle.std.proofs.Common.{◌≡◌, ◌-◌, ◌≤◌, length, take}
use Rattle.ion_symbols.proofs.shared.overwrite.Given as goal

-- the bytes so far are written over, and the others are as they were
abbrev pub invariant-loop-i : goal.invariant-loop-i
invariant-loop-i g l = record {
  within : l.i ≤ length l.bytes;
  long : length l.buf ≡ length l.bytes;
  prefix : take l.i l.buf ≡ take l.i l.bytes;
}

abbrev pub decreases-loop-i : goal.decreases-loop-i
decreases-loop-i g l = length l.bytes - l.i
