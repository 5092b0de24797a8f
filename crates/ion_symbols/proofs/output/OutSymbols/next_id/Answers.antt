use Rattle.std.proofs.Common.{◌+◌, length, ap, ◌∙◌}
use Rattle.ion_symbols.specs.Output.{Output}
use Rattle.ion_symbols.proofs.output.OutSymbols.next_id.Goals as goal

pub returns : goal.returns
returns g c = ap (λ n. 10 + n) (c.len.ensures.0 ∙ ap (λ (s : Output). length s.texts) c.self.view_is)
