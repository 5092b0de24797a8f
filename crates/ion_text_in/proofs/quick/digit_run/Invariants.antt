use Rattle.std.proofs.Common.{◌≡◌, ◌-◌, ◌≤◌, true, length, take}
use Rattle.ion_value.specs.Digits.{all_are, is_digit}
use Rattle.ion_text_in.proofs.quick.digit_run.Given as goal

abbrev pub invariant-skip : goal.invariant-skip
invariant-skip l = record {
  within : l.at ≤ length l.bytes;
  run : all_are is_digit (take l.at l.bytes) ≡ true;
}

abbrev pub decreases-skip : goal.decreases-skip
decreases-skip l = length l.bytes - l.at
