use Rattle.std.proofs.Common.{◌≡◌, true, false, sym, subst, ◌∙◌, arith, ◌-◌}
use Rattle.std.specs.Str.{bytes_eq}
use Rattle.ion_symbols.specs.Table.{greatest}
use Rattle.ion_symbols.proofs.Ranking.{orders_lent, versions_lent, found_lent, greatest_absent, greatest_last, greatest_other, no_greater_version, place_in, within_past}
use Rattle.ion_symbols.proofs.catalog.Catalog.greatest.Goals as goal

pub returns-in-Ok : goal.returns-in-Ok
returns-in-Ok g c =
    let h = orders_lent c.self.inside.tables.items c.as_slice-tables.result.now c.self.inside.order.items c.as_slice-order.result.now c.self.invariant.orders c.as_slice-tables.ensures c.as_slice-order.ensures in
    let v = versions_lent c.self.inside.tables.items c.as_slice-tables.result.now c.self.invariant.versions c.as_slice-tables.ensures in
    no_greater_version c.as_slice-tables.result.now c.as_slice-order.result.now c.args.name.now c.in-Ok.field-0 h v c.in-Ok.ensures.found

pub returns-then-past-eq0 : goal.returns-then-past-eq0
returns-then-past-eq0 g c =
    let h = orders_lent c.self.inside.tables.items c.as_slice-tables.result.now c.self.inside.order.items c.as_slice-order.result.now c.self.invariant.orders c.as_slice-tables.ensures c.as_slice-order.ensures in
    let v = versions_lent c.self.inside.tables.items c.as_slice-tables.result.now c.self.invariant.versions c.as_slice-tables.ensures in
    found_lent (λ ts. greatest ts c.args.name.now) c.self.inside.tables.items c.as_slice-tables.result.now c.args.self.now _ c.self.view_is c.as_slice-tables.ensures
    (greatest_absent c.as_slice-tables.result.now c.as_slice-order.result.now c.args.name.now c.in-Err.rank h v c.in-Err.ensures.belongs c.if-past-eq0.true)

pub returns-then-eq : goal.returns-then-eq
returns-then-eq g c =
    let h = orders_lent c.self.inside.tables.items c.as_slice-tables.result.now c.self.inside.order.items c.as_slice-order.result.now c.self.invariant.orders c.as_slice-tables.ensures c.as_slice-order.ensures in
    let v = versions_lent c.self.inside.tables.items c.as_slice-tables.result.now c.self.invariant.versions c.as_slice-tables.ensures in
    let named : bytes_eq c.index-tables-place.result.name c.args.name.now ≡ true = subst (λ n. bytes_eq n c.args.name.now ≡ true) c.name.ensures (sym c.eq.ensures ∙ c.if-eq.true) in
    found_lent (λ ts. greatest ts c.args.name.now) c.self.inside.tables.items c.as_slice-tables.result.now c.args.self.now _ c.self.view_is c.as_slice-tables.ensures
    (greatest_last c.as_slice-tables.result.now c.as_slice-order.result.now c.args.name.now c.in-Err.rank c.index-tables-place.result h v c.in-Err.ensures.belongs (omega (arith, c.if-past-eq0.false)) c.index-tables-place.is named)

pub returns-else-eq : goal.returns-else-eq
returns-else-eq g c =
    let h = orders_lent c.self.inside.tables.items c.as_slice-tables.result.now c.self.inside.order.items c.as_slice-order.result.now c.self.invariant.orders c.as_slice-tables.ensures c.as_slice-order.ensures in
    let v = versions_lent c.self.inside.tables.items c.as_slice-tables.result.now c.self.invariant.versions c.as_slice-tables.ensures in
    let named : bytes_eq c.index-tables-place.result.name c.args.name.now ≡ false = subst (λ n. bytes_eq n c.args.name.now ≡ false) c.name.ensures (sym c.eq.ensures ∙ c.if-eq.false) in
    found_lent (λ ts. greatest ts c.args.name.now) c.self.inside.tables.items c.as_slice-tables.result.now c.args.self.now _ c.self.view_is c.as_slice-tables.ensures
    (greatest_other c.as_slice-tables.result.now c.as_slice-order.result.now c.args.name.now c.in-Err.rank c.index-tables-place.result h v c.in-Err.ensures.belongs (omega (arith, c.if-past-eq0.false)) c.index-tables-place.is named)

pub bounds-order-past : goal.bounds-order-past
bounds-order-past g c =
    within_past c.as_slice-tables.result.now c.as_slice-order.result.now c.args.name.now c.in-Err.rank c.in-Err.ensures.belongs (omega (arith, c.if-past-eq0.false))

pub offset_bounds-order-past : goal.offset_bounds-order-past
offset_bounds-order-past g c =
    let l = within_past c.as_slice-tables.result.now c.as_slice-order.result.now c.args.name.now c.in-Err.rank c.in-Err.ensures.belongs (omega (arith, c.if-past-eq0.false)) in
    omega (arith, l)

pub bounds-tables-place : goal.bounds-tables-place
bounds-tables-place g c =
    let h = orders_lent c.self.inside.tables.items c.as_slice-tables.result.now c.self.inside.order.items c.as_slice-order.result.now c.self.invariant.orders c.as_slice-tables.ensures c.as_slice-order.ensures in
    let l = within_past c.as_slice-tables.result.now c.as_slice-order.result.now c.args.name.now c.in-Err.rank c.in-Err.ensures.belongs (omega (arith, c.if-past-eq0.false)) in
    place_in c.as_slice-tables.result.now c.as_slice-order.result.now (c.in-Err.rank - 1) h l

pub offset_bounds-tables-place : goal.offset_bounds-tables-place
offset_bounds-tables-place g c =
    let h = orders_lent c.self.inside.tables.items c.as_slice-tables.result.now c.self.inside.order.items c.as_slice-order.result.now c.self.invariant.orders c.as_slice-tables.ensures c.as_slice-order.ensures in
    let l = within_past c.as_slice-tables.result.now c.as_slice-order.result.now c.args.name.now c.in-Err.rank c.in-Err.ensures.belongs (omega (arith, c.if-past-eq0.false)) in
    let p = place_in c.as_slice-tables.result.now c.as_slice-order.result.now (c.in-Err.rank - 1) h l in
    omega (arith, p)

pub rank_of-requires : goal.rank_of-requires
rank_of-requires g c =
    orders_lent c.self.inside.tables.items c.as_slice-tables.result.now c.self.inside.order.items c.as_slice-order.result.now c.self.invariant.orders c.as_slice-tables.ensures c.as_slice-order.ensures
