use Rattle.std.proofs.Common.{◌≡◌, ◌++◌, ◌∷◌, [], true, length, Some, ap, ap₂, sym, ◌∙◌, arith}
use Rattle.std.proofs.lemmas.Grind.{common_steps}
use Rattle.ion_symbols.specs.Table.{find, may_stand}
use Rattle.ion_symbols.specs.Ranks.{key, key_of}
use Rattle.ion_symbols.proofs.Ranking.{orders_lent, found_lent, rank_points, not_there, added_order, texts_added, belongs_lent, refused_table, rank_upto, same_ranked}
use Rattle.ion_symbols.proofs.catalog.Catalog.add.Goals as goal

pub returns-in_default-clause-why : goal.returns-in_default-clause-why
returns-in_default-clause-why g c =
    let may : may_stand c.args.self.now c.args.table ≡ true = sym c.may_take.ensures ∙ c.if-not-may_take.false in
    let k : key_of c.name.result.now c.version.result ≡ key c.args.table = ap₂ key_of c.name.ensures c.version.ensures in
    let h = orders_lent c.self.inside.tables.items c.as_slice-tables.result.now c.self.inside.order.items c.as_slice-order.result.now c.self.invariant.orders c.as_slice-tables.ensures c.as_slice-order.ensures in
    not_there c.args.self.now c.args.table _ may
    (found_lent (λ ts. find ts c.args.table.name c.args.table.version) c.self.inside.tables.items c.as_slice-tables.result.now c.args.self.now _ c.self.view_is c.as_slice-tables.ensures
    (rank_points c.as_slice-tables.result.now c.as_slice-order.result.now c.args.table.name c.args.table.version c.in_default.field-0 h (c.in_default.ensures.found ∙ ap Some k)))

pub returns-in-Err-push_and_insert-clause-why : goal.returns-in-Err-push_and_insert-clause-why
returns-in-Err-push_and_insert-clause-why g c =
    let may : may_stand c.args.self.now c.args.table ≡ true = sym c.may_take.ensures ∙ c.if-not-may_take.false in
    refused_table c.args.self.now c.args.table c.args.meter.now c.push_and_insert.new.meter c.in-Err-push_and_insert.failed.1 c.in-Err-push_and_insert.ensures.returned.1 may c.in-Err-push_and_insert.ensures.refused

pub invariant_of-self-2 : goal.invariant_of-self-2
invariant_of-self-2 g c =
    let may : may_stand c.self.inside.tables.items c.args.table ≡ true = ap (λ ts. may_stand ts c.args.table) c.self.view_is ∙ (sym c.may_take.ensures ∙ c.if-not-may_take.false) in
    let b = belongs_lent c.self.inside.tables.items c.as_slice-tables.result.now c.self.inside.order.items c.as_slice-order.result.now (key c.args.table) _ c.in-Err.rank c.as_slice-tables.ensures c.as_slice-order.ensures
    (ap₂ key_of c.name.ensures c.version.ensures) c.in-Err.ensures.belongs in
    added_order c.self.inside.tables c.push_and_insert.new.self c.self.inside.order c.push_and_insert.new.others c.args.table c.in-Err.rank _ c.self.invariant b may c.in_default-push_and_insert.ensures.added
    c.push_and_insert.ensures.same_cost c.in_default-push_and_insert.ensures.inserted c.push_and_insert.ensures.same_other_cost (ap length c.as_slice-tables.ensures)

pub returns-clause-is_text : goal.returns-clause-is_text
returns-clause-is_text g c = λ h k. texts_added c.args.self.now _ c.args.table (c.in_default-push_and_insert.ensures.added ∙ ap (λ ts. ts ++ c.args.table ∷ []) c.self.view_is) h k

pub push_and_insert-requires-clause-within : goal.push_and_insert-requires-clause-within
push_and_insert-requires-clause-within g c =
    rank_upto c.as_slice-tables.result.now c.self.inside.order.items c.as_slice-order.result.now _ c.in-Err.rank c.as_slice-order.ensures c.in-Err.ensures.belongs

pub rank_of-requires : goal.rank_of-requires
rank_of-requires g c =
    orders_lent c.self.inside.tables.items c.as_slice-tables.result.now c.self.inside.order.items c.as_slice-order.result.now c.self.invariant.orders c.as_slice-tables.ensures c.as_slice-order.ensures

pub invariant_of-self : goal.invariant_of-self
invariant_of-self g c =
    same_ranked c.self.inside.tables c.push_and_insert.new.self c.self.inside.order c.push_and_insert.new.others c.self.invariant c.in-Err-push_and_insert.ensures.err.0 c.in-Err-push_and_insert.ensures.err.1

pub push_and_insert-requires-clause-countable : goal.push_and_insert-requires-clause-countable
push_and_insert-requires-clause-countable g c = grind (arith, common_steps)

pub returns-in-Err-push_and_insert-clause-is_text : goal.returns-in-Err-push_and_insert-clause-is_text
returns-in-Err-push_and_insert-clause-is_text g c = grind (arith, common_steps)

pub returns-in-Err-push_and_insert-clause-err : goal.returns-in-Err-push_and_insert-clause-err
returns-in-Err-push_and_insert-clause-err g c = grind (arith, common_steps)

pub returns-clause-ok : goal.returns-clause-ok
returns-clause-ok g c = grind (arith, common_steps)

pub push_and_insert-requires-clause-room : goal.push_and_insert-requires-clause-room
push_and_insert-requires-clause-room g c = grind (arith, common_steps)

pub returns-in-Err-push_and_insert-clause-returned : goal.returns-in-Err-push_and_insert-clause-returned
returns-in-Err-push_and_insert-clause-returned g c = grind (arith, common_steps)

pub same-self-in_default : goal.same-self-in_default
same-self-in_default g c = grind (arith, common_steps)

pub returns-in_default-clause-err : goal.returns-in_default-clause-err
returns-in_default-clause-err g c = grind (arith, common_steps)

pub returns-in_default-clause-returned : goal.returns-in_default-clause-returned
returns-in_default-clause-returned g c = grind (arith, common_steps)
