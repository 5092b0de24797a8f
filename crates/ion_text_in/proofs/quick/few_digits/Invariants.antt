use Rattle.std.proofs.Common.{◌≡◌, true, take}
use Rattle.ion_value.specs.Digits.{all_are, is_digit}
use Rattle.ion_text_in.proofs.quick.few_digits.Given as goal

abbrev pub invariant-loop-i : goal.invariant-loop-i
invariant-loop-i l = all_are is_digit (take l.i l.bytes) ≡ true
