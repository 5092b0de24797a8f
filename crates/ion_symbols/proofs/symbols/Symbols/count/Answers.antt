use Rattle.std.proofs.Common.{◌+◌, ap, ◌∙◌}
use Rattle.ion_symbols.specs.Table.{count_of}
use Rattle.ion_symbols.specs.Present.{Present}
use Rattle.ion_symbols.proofs.Importing.{kept_total}
use Rattle.ion_symbols.proofs.symbols.Symbols.count.Goals as goal

pub returns : goal.returns
returns g c =
    ap (λ n. c.self.inside.import_slots + n) c.len.ensures
    ∙ (kept_total c.self.inside.catalog.now c.self.inside.imports.items c.self.inside.import_slots c.self.inside.slots c.self.invariant.starts
    ∙ ap (λ (p : Present). count_of p.table) c.self.view_is)
