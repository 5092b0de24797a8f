use Rattle.std.proofs.Common.{◌≡◌, take, drop, map}
use Rattle.ion_value.specs.Number.{number}
use Rattle.ion_value.specs.Digits.{is_digit, digit_value, all_are}
use Rattle.ion_value.specs.Name.{raw_id}
use Rattle.ion_text_in.proofs.word.id_of.Given as goal

abbrev pub invariant-digits : goal.invariant-digits
invariant-digits l = record {
  id : l.id ≡ raw_id (number 10 (map digit_value (take l.byte-index l.digits)));
  all : all_are is_digit l.digits ≡ all_are is_digit (drop l.byte-index l.digits);
}
