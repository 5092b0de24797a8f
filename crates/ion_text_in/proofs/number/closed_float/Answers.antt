use Rattle.std.proofs.Common.{◌∙◌, ap, ℕ, List, take}
use Rattle.ion_value.specs.Float.{values_of}
use Rattle.ion_text_in.specs.Token.{found_float}
use Rattle.ion_text_in.proofs.RunTokens.{closed-read}
use Rattle.ion_text_in.proofs.number.closed_float.Goals as goal

pub returns-clause-is : goal.returns-clause-is
returns-clause-is g c =
    c.found.ensures
    ∙ ap found_float (closed-read c.args.text.now _ (values_of c.nearest_float.result) c.requires
    (ap (λ (l : List ℕ). take c.close_up-count.result l) c.as_slice.ensures ∙ c.close_up-count.ensures.closed) c.nearest_float.ensures.read)
