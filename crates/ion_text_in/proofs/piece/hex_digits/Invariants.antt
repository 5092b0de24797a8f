use Rattle.std.proofs.Common.{◌≡◌, ◌<◌, ◌≤◌, ◌-◌, ◌*◌, ◌^◌, length, drop}
use Rattle.ion_text_in.specs.Quoted.{hex_after}
use Rattle.ion_text_in.proofs.piece.hex_digits.Given as goal

abbrev pub invariant-loop-i : goal.invariant-loop-i
invariant-loop-i l = record {
  same : hex_after l.count 0 l.bytes ≡ hex_after (l.count - l.i) l.number (drop l.i l.bytes);
  small : l.number < 2 ^ (4 * l.i);
  there : l.i ≤ length l.bytes;
}
