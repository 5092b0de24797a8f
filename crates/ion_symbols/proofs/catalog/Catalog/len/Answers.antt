use Rattle.std.proofs.Common.{length, ap, ◌∙◌}
use Rattle.ion_symbols.proofs.catalog.Catalog.len.Goals as goal

pub returns : goal.returns
returns g c = ap length (c.as_slice.ensures ∙ c.self.view_is)
