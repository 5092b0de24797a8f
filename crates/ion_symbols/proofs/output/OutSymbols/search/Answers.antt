use Rattle.std.proofs.Common.{ap, sym, subst₂, ◌∙◌}
use Rattle.ion_symbols.specs.Output.{Output, IsSorted}
use Rattle.ion_symbols.proofs.Orders.{orders_sorted}
use Rattle.ion_symbols.proofs.output.OutSymbols.search.Goals as goal

pub returns-clause-texts : goal.returns-clause-texts
returns-clause-texts g c =
    subst₂ IsSorted (sym c.search.ensures.texts) (ap (λ (s : Output). s.texts) c.self.view_is) (orders_sorted _ _ (c.self.invariant.0.order (sym c.is_ordered.ensures ∙ c.if-not-is_ordered.false)))

pub returns-clause-some : goal.returns-clause-some
returns-clause-some g c = ap (λ (s : Output). s.is_ordered) (sym c.self.view_is) ∙ (sym c.is_ordered.ensures ∙ c.if-not-is_ordered.false)
