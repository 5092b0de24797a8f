use Rattle.std.proofs.Common.{◌≡◌, drop}
use Rattle.ion_value.specs.Digits.{all_are}
use Rattle.ion_value.specs.Name.{is_own_in_quotes}
use Rattle.ion_value.proofs.name.stands_in_quotes.Given as goal

abbrev pub invariant-bytes : goal.invariant-bytes
invariant-bytes l = all_are is_own_in_quotes l.name ≡ all_are is_own_in_quotes (drop l.byte-index l.name)
