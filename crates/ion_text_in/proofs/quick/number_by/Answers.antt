use Rattle.std.proofs.lemmas.List.{take_rest}
use Rattle.ion_text_in.proofs.SpelledNumbers.{after-both}
use Rattle.ion_text_in.proofs.quick.number_by.Goals as goal

pub returns : goal.returns
returns c = rw (c.number_after-front.ensures, c.pow.ensures, c.number_after-2.ensures, take_rest c.args.digits.now 19) (after-both 19 c.args.digits.now c.requires.digits)
