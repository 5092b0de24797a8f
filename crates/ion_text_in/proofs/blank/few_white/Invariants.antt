use Rattle.std.proofs.Common.{◌≡◌, true, take}
use Rattle.ion_value.specs.Digits.{all_are}
use Rattle.ion_text_in.specs.Blanks.{is_white}
use Rattle.ion_text_in.proofs.blank.few_white.Given as goal

abbrev pub invariant-loop-i : goal.invariant-loop-i
invariant-loop-i l = all_are is_white (take l.i l.bytes) ≡ true
