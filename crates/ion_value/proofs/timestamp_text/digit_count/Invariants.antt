use Rattle.std.proofs.Common.{◌≡◌, true, take}
use Rattle.ion_value.specs.Digits.{is_digit, all_are}
use Rattle.ion_value.proofs.timestamp_text.digit_count.Given as goal

abbrev pub invariant-loop-i : goal.invariant-loop-i
invariant-loop-i l = all_are is_digit (take l.i l.bytes) ≡ true
