use Rattle.std.proofs.Common.{ap, sym, ◌∙◌, arith}
use Rattle.std.proofs.lemmas.Option.{slice_get_past}
use Rattle.ion_symbols.specs.Table.{local_slot, text_of_slot}
use Rattle.ion_symbols.proofs.Importing.{gap_at, local_at, total_imports, unknown_by}
use Rattle.ion_symbols.proofs.symbols.Symbols.missing.Goals as goal

pub returns-then-place-self : goal.returns-then-place-self
returns-then-place-self g c =
    gap_at c.args.self.now.table c.args.id c.if-id-lt10.false
    (omega (arith, c.if-place-self.true, total_imports c.self.inside.catalog.now c.self.inside.imports.items c.self.inside.import_slots c.self.inside.slots c.args.self.now c.self.invariant.starts c.self.view_is))
    c.requires

pub returns-then-place-self-2 : goal.returns-then-place-self-2
returns-then-place-self-2 g c =
    let l = local_at c.self.inside.catalog.now c.self.inside.imports.items c.self.inside.import_slots c.self.inside.slots c.args.self.now c.self.invariant.starts c.self.view_is c.args.id c.if-id-lt10.false c.if-place-self.false in
    unknown_by c.self.inside.slots _ (omega (arith, c.if-place-self-2.true, c.len.ensures)) (ap text_of_slot l ∙ c.requires) ∙ l

pub returns : goal.returns
returns g c =
    let l = local_at c.self.inside.catalog.now c.self.inside.imports.items c.self.inside.import_slots c.self.inside.slots c.args.self.now c.self.invariant.starts c.self.view_is c.args.id c.if-id-lt10.false c.if-place-self.false in
    ap local_slot (sym (slice_get_past c.self.inside.slots _ (omega (arith, c.if-place-self-2.false, c.len.ensures)))) ∙ l
