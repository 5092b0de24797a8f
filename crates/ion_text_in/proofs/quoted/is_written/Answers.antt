use Rattle.std.proofs.Common.{not, ◌&&◌, ◌||◌, ◌==◌, nat_le, nat_lt, [], ◌∷◌, get_or, refl, sym, arith}
use Rattle.std.proofs.lemmas.Bool.{agree_below_at}
use Rattle.ion_value.specs.Name.{is_one_of}
use Rattle.ion_text_in.specs.declared.quoted.TheConstants.{WRITTEN_BYTES}
use Rattle.ion_text_in.proofs.quoted.is_written.Goals as goal

pub returns : goal.returns
returns c = sym
    (agree_below_at (λ b. not (b == 92) && (nat_le 32 b || is_one_of (9 ∷ 11 ∷ 12 ∷ []) b)) (λ b. nat_lt 0 (get_or WRITTEN_BYTES b 0)) 256 c.args.byte refl (omega arith))
