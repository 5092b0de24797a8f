use Rattle.std.proofs.Common.{◌∙◌, ap, ◌++◌, List, ℕ, arith}
use Rattle.ion_value.specs.FloatText.{digits_text}
use Rattle.ion_float.proofs.TextOfBits.{above_text}
use Rattle.ion_float.proofs.text.push_magnitude.Goals as goal

pub returns-else-bits-eq0 : goal.returns-else-bits-eq0
returns-else-bits-eq0 c =
    c.push_number.ensures
    ∙ ap (λ (t : List ℕ). c.args.text.now.bytes ++ t) (ap digits_text c.shortest.ensures.exact ∙ above_text c.args.bits (omega arith, c.requires.finite))
