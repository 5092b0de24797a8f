use Rattle.std.proofs.Common.{◌≡◌, ◌-◌, ◌≤◌, true, length, take}
use Rattle.ion_value.specs.Digits.{all_are}
use Rattle.ion_text_in.specs.Scanning.{is_plain_byte}
use Rattle.ion_text_in.specs.Quotes.{quote_of}
use Rattle.ion_text_in.proofs.quoted.plain_length.Given as goal

abbrev pub invariant-skip : goal.invariant-skip
invariant-skip l = record {
  within : l.at ≤ length l.bytes;
  plain : all_are (is_plain_byte (quote_of l.quote)) (take l.at l.bytes) ≡ true;
}

abbrev pub decreases-skip : goal.decreases-skip
decreases-skip l = length l.bytes - l.at

abbrev pub invariant-few : goal.invariant-few
invariant-few l = record {
  within : l.at ≤ length l.bytes;
  plain : all_are (is_plain_byte (quote_of l.quote)) (take l.at l.bytes) ≡ true;
}

abbrev pub decreases-few : goal.decreases-few
decreases-few l = length l.bytes - l.at
