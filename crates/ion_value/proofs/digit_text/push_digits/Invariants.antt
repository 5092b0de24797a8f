use Rattle.std.proofs.Common.{◌≡◌, ◌-◌, ◌≤◌, ◌++◌, length, replicate}
use Rattle.ion_value.proofs.digit_text.push_digits.Given as goal

abbrev pub invariant-zeros : goal.invariant-zeros
invariant-zeros l = record {
  within : length l.digits ≤ l.count;
  text : l.text.bytes ≡ l.initial.text.bytes ++ replicate (l.counter - length l.digits) 48;
}
