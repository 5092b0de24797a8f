use Rattle.std.proofs.Common.{◌≡◌, ◌^◌, ◌<◌, true, take, map}
use Rattle.ion_value.specs.Number.{number}
use Rattle.ion_value.specs.Digits.{is_digit, digit_value, all_are}
use Rattle.ion_value.proofs.timestamp_text.few_digits.Given as goal

abbrev pub invariant-loop-i : goal.invariant-loop-i
invariant-loop-i l = record {
  digits : all_are is_digit (take l.i l.prefix) ≡ true;
  value : l.number ≡ number 10 (map digit_value (take l.i l.prefix));
  small : l.number < 10 ^ l.i;
}
