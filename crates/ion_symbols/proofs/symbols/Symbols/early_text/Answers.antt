use Rattle.std.proofs.lemmas.Grind.{elements}
use Rattle.std.proofs.Common.{subst, arith}
use Rattle.ion_symbols.specs.Kept.{IsNameText}
use Rattle.ion_symbols.proofs.Importing.{imported_text, total_imports}
use Rattle.ion_symbols.proofs.symbols.Symbols.early_text.Goals as goal

pub import_at-requires : goal.import_at-requires
import_at-requires g c =
    (c.self.inside.import_slots, rw c.as_slice-imports.ensures (c.self.invariant.starts, omega (arith, c.requires, c.if-id-lt10.false, total_imports c.self.inside.catalog.now c.self.inside.imports.items c.self.inside.import_slots c.self.inside.slots c.args.self.now c.self.invariant.starts c.self.view_is)))

pub returns : goal.returns
returns g c =
    let t = imported_text c.self.inside.catalog.now c.self.inside.imports.items c.self.inside.import_slots c.self.inside.slots c.args.self.now c.self.invariant.starts c.self.view_is c.import_at.result c.args.id c.if-id-lt10.false (rw c.as_slice-imports.ensures at c.import_at.ensures) in
    subst (IsNameText c.shared.result) t (rw c.as_slice-imports.ensures at c.shared.ensures)

pub offset_bounds-imports-import_at : goal.offset_bounds-imports-import_at
offset_bounds-imports-import_at g c = grind (arith, elements)

pub bounds-imports-import_at : goal.bounds-imports-import_at
bounds-imports-import_at g c = grind (arith, elements)

pub overflow_sub-place-2 : goal.overflow_sub-place-2
overflow_sub-place-2 g c = grind (arith, elements)
