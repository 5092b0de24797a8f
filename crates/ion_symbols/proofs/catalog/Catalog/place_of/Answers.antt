use Rattle.std.proofs.Common.{arith}
use Rattle.ion_symbols.specs.Table.{find}
use Rattle.ion_symbols.proofs.Ranking.{orders_lent, found_lent, rank_points, no_rank_points, rank_there}
use Rattle.ion_symbols.proofs.catalog.Catalog.place_of.Goals as goal

pub returns-in-Ok : goal.returns-in-Ok
returns-in-Ok g c =
    let h = orders_lent c.self.inside.tables.items c.as_slice.result.now c.self.inside.order.items c.as_slice-order.result.now c.self.invariant.orders c.as_slice.ensures c.as_slice-order.ensures in
    found_lent (λ ts. find ts c.args.name.now c.args.version) _ _ _ _ c.self.view_is c.as_slice.ensures (rank_points _ _ _ _ _ h c.in-Ok.ensures.found)

pub returns-in-Err : goal.returns-in-Err
returns-in-Err g c =
    let h = orders_lent c.self.inside.tables.items c.as_slice.result.now c.self.inside.order.items c.as_slice-order.result.now c.self.invariant.orders c.as_slice.ensures c.as_slice-order.ensures in
    found_lent (λ ts. find ts c.args.name.now c.args.version) _ _ _ _ c.self.view_is c.as_slice.ensures (no_rank_points _ _ _ _ c.in-Err.field-0 h c.in-Err.ensures.belongs)

pub offset_bounds-order-rank : goal.offset_bounds-order-rank
offset_bounds-order-rank g c =
    let l = rank_there c.as_slice.result.now c.as_slice-order.result.now _ c.in-Ok.rank c.in-Ok.ensures.found in
    omega (arith, l)

pub bounds-order-rank : goal.bounds-order-rank
bounds-order-rank g c =
    rank_there c.as_slice.result.now c.as_slice-order.result.now _ c.in-Ok.rank c.in-Ok.ensures.found

pub rank_of-requires : goal.rank_of-requires
rank_of-requires g c =
    orders_lent c.self.inside.tables.items c.as_slice.result.now c.self.inside.order.items c.as_slice-order.result.now c.self.invariant.orders c.as_slice.ensures c.as_slice-order.ensures
