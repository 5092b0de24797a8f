use Rattle.std.proofs.Common.{◌∙◌, drop, ap, ap₂}
use Rattle.ion_symbols.specs.Output.{Output}
use Rattle.ion_symbols.proofs.output.OutSymbols.new_since.Goals as goal

pub returns : goal.returns
returns g c = c.since.ensures ∙ ap₂ drop c.saturating_sub.ensures (ap (λ (s : Output). s.texts) c.self.view_is)
