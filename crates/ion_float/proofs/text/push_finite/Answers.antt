use Rattle.std.proofs.Common.{◌∙◌, ap, ◌++◌, ◌∷◌, [], List, ℕ, append_assoc, lit<}
use Rattle.ion_float.proofs.TextOfBits.{minus_text}
use Rattle.ion_float.proofs.text.push_finite.Goals as goal

pub returns-else-bits-lt-SIGN : goal.returns-else-bits-lt-SIGN
returns-else-bits-lt-SIGN c =
    let pushed = c.push.ensures.ascii (lit< tt) in
    c.push_magnitude-else-bits-lt-SIGN.ensures
    ∙ rw pushed (append_assoc c.args.text.now.bytes (45 ∷ []) _
    ∙ ap (λ (t : List ℕ). c.args.text.now.bytes ++ t) (minus_text c.args.bits c.if-bits-lt-SIGN.false c.ranges.bits.fits c.requires.finite))
