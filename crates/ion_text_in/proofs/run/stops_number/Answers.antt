use Rattle.std.proofs.Common.{◌==◌, get_or, ◌||◌, codes, refl, sym, arith}
use Rattle.std.proofs.lemmas.Bool.{agree_below_at}
use Rattle.ion_value.specs.Name.{is_one_of}
use Rattle.ion_text_in.specs.Blanks.{is_white}
use Rattle.ion_text_in.specs.declared.run.TheConstants.{CLASSES}
use Rattle.ion_text_in.proofs.run.stops_number.Goals as goal

pub returns : goal.returns
returns c = sym (agree_below_at (λ b. is_one_of (codes "{}[](),\"'") b || is_white b) (λ b. get_or CLASSES b 0 == 1) 256 c.args.byte refl (omega arith))
