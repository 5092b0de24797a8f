use Rattle.std.proofs.Common.{true, refl, ap, ◌∙◌}
use Rattle.ion_symbols.specs.Output.{Output}
use Rattle.ion_symbols.proofs.KeptTexts.{same_output, same_share, same_texts}
use Rattle.ion_symbols.proofs.output.OutSymbols.put_in_order.Goals as goal

pub returns : goal.returns
returns g c =
    same_output _ _ _ _ _ _ _ (same_texts c.self.inside.kept _ _ c.put_in_order.ensures.texts refl) refl c.put_in_order.ensures.ordered
    ∙ ap (λ (s : Output). record s { is_ordered = true }) c.self.view_is

pub invariant_of-self : goal.invariant_of-self
invariant_of-self g c =
    (c.put_in_order.ensures.kept, same_share _ _ _ (same_texts c.self.inside.kept _ _ c.put_in_order.ensures.texts refl) c.self.invariant.1, c.self.invariant.2)
