use Rattle.std.proofs.Common.{ap, ◌∙◌}
use Rattle.ion_symbols.specs.Output.{Output, texts_cost}
use Rattle.ion_symbols.proofs.output.OutSymbols.cost.Goals as goal

pub returns : goal.returns
returns g c = c.cost.ensures ∙ ap (λ (s : Output). texts_cost s.texts) c.self.view_is
