use Rattle.std.proofs.Common.{◌∙◌, nat_lt, get_or, ◌==◌, ◌||◌, refl, sym, arith}
use Rattle.std.proofs.lemmas.Bool.{agree_below_at}
use Rattle.ion_text_in.specs.declared.run.TheConstants.{CLASSES}
use Rattle.ion_text_in.proofs.WordTokens.{keyword-first}
use Rattle.ion_text_in.proofs.word.may_be_keyword.Goals as goal

pub returns-in-len1-up : goal.returns-in-len1-up
returns-in-len1-up c =
    sym (agree_below_at (λ b. 110 == b || 116 == b || 102 == b) (λ b. nat_lt 3 (get_or CLASSES b 0)) 256 (get_or c.args.word.now 0 0) refl (omega (arith, c.type_inv.word 0))) ∙ keyword-first c.args.word.now c.in-len1-up.len_at_least
