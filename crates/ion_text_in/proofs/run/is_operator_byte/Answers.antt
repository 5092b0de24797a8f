use Rattle.std.proofs.Common.{◌==◌, get_or, refl, sym, arith}
use Rattle.std.proofs.lemmas.Bool.{agree_below_at}
use Rattle.ion_text_in.specs.declared.run.TheConstants.{CLASSES}
use Rattle.ion_value.specs.Name.{is_operator_byte}
use Rattle.ion_text_in.proofs.run.is_operator_byte.Goals as goal

pub returns : goal.returns
returns c = sym (agree_below_at (is_operator_byte) (λ b. get_or CLASSES b 0 == 2) 256 c.args.byte refl (omega arith))
