use Rattle.std.proofs.Common.{◌≡◌, drop}
use Rattle.ion_value.specs.Digits.{all_are, is_digit}
use Rattle.ion_value.proofs.name.all_digits.Given as goal

abbrev pub invariant-bytes : goal.invariant-bytes
invariant-bytes l = all_are is_digit l.bytes ≡ all_are is_digit (drop l.byte-index l.bytes)
