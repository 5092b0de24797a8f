use Rattle.std.proofs.Common.{◌+◌, ◌-◌, ◌≤◌, length, refl, ap, arith}
use Rattle.std.proofs.lemmas.Grind.{common_steps}
use Rattle.ion_symbols.specs.Table.{most_slots}
use Rattle.ion_symbols.specs.declared.symbols.FoundImport.{FoundImport}
use Rattle.ion_symbols.proofs.Pendings.{import_pushed}
use Rattle.ion_symbols.proofs.buffer.SymbolBuffer.end_import.Goals as goal

pub returns-clause-pending : goal.returns-clause-pending
returns-clause-pending g c =
    let b = c.args.self.now in
    let f : FoundImport = record { table = c.in-Slots.table; start = b.import_slots; count = c.in-Slots.count } in
    let cheap : (b.cost - length c.as_slice.result.now) + 32 ≤ c.args.limit = grind arith in
    let few : b.count + c.in-Slots.count ≤ most_slots = grind arith in
    import_pushed b c.push.new.self f (length c.as_slice.result.now) c.clear.new.self c.requires.can_take.pending c.requires.within.0
    c.in_default.ensures.ok c.push.ensures.same_cost refl (ap length c.as_slice.ensures) c.clear.ensures.bytes cheap few

pub returns-clause-turn : goal.returns-clause-turn
returns-clause-turn g c = grind (arith, common_steps)

pub returns-clause-takes : goal.returns-clause-takes
returns-clause-takes g c = grind (arith, common_steps)

pub overflow_sub-self : goal.overflow_sub-self
overflow_sub-self g c = grind (arith, common_steps)

pub overflow_add-self : goal.overflow_add-self
overflow_add-self g c = grind (arith, common_steps)

pub returns-then-not-fits-clause-takes : goal.returns-then-not-fits-clause-takes
returns-then-not-fits-clause-takes g c = grind (arith, common_steps)

pub returns-in-Missing-clause-takes : goal.returns-in-Missing-clause-takes
returns-in-Missing-clause-takes g c = grind (arith, common_steps)

pub returns-in-Ignored-clause-takes : goal.returns-in-Ignored-clause-takes
returns-in-Ignored-clause-takes g c = grind (arith, common_steps)

pub returns-in-Err-clause-takes : goal.returns-in-Err-clause-takes
returns-in-Err-clause-takes g c = grind (arith, common_steps)

pub returns-in-Err-clause-turn : goal.returns-in-Err-clause-turn
returns-in-Err-clause-turn g c = grind (arith, common_steps)

pub overflow_add-self-3 : goal.overflow_add-self-3
overflow_add-self-3 g c = grind (arith, common_steps)

pub returns-in-Ignored-clause-pending : goal.returns-in-Ignored-clause-pending
returns-in-Ignored-clause-pending g c = grind (arith, common_steps)

pub push-requires-clause-room : goal.push-requires-clause-room
push-requires-clause-room g c = grind (arith, common_steps)

pub push-requires-clause-countable : goal.push-requires-clause-countable
push-requires-clause-countable g c = grind (arith, common_steps)

pub fits-requires : goal.fits-requires
fits-requires g c = grind (arith, common_steps)
