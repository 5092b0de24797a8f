use Rattle.std.proofs.Common.{subst, arith}
use Rattle.ion_symbols.specs.Kept.{IsNameText}
use Rattle.ion_symbols.proofs.Importing.{local_text_at, total_imports}
use Rattle.ion_symbols.proofs.symbols.SymbolsNames.name_text.Goals as goal

pub early-requires : goal.early-requires
early-requires g c =
    omega (arith, c.if-place-first.true, total_imports c.self.inside.catalog.now c.self.inside.imports.items c.self.inside.import_slots c.self.inside.slots c.args.self.now c.self.invariant.starts c.self.view_is)

pub returns : goal.returns
returns g c =
    subst (IsNameText c.name_text.result)
    (local_text_at c.self.inside.catalog.now c.self.inside.imports.items c.self.inside.import_slots c.self.inside.slots c.args.self.now c.self.invariant.starts c.self.view_is c.args.id c.if-place-first.false)
    c.name_text.ensures
