use Rattle.std.proofs.Common.{◌≡◌, ◌+◌, ◌*◌, length, ap, ◌∙◌, arith}
use Rattle.std.proofs.lemmas.Grind.{common_steps}
use Rattle.ion_symbols.specs.Table.{catalog_cost, shared_cost}
use Rattle.ion_symbols.proofs.Catalogued.{each_costs, cost_without, long_without, places_cost}
use Rattle.ion_symbols.proofs.catalog.Catalog.release.Goals as goal

pub release-requires : goal.release-requires
release-requires g c =
    let e = places_cost c.self.inside.tables.items c.self.inside.order c.self.inside.tables.cost c.self.invariant in
    let same = ap catalog_cost c.self.view_is in
    omega (arith, e, same, each_costs c.self.inside.tables.items, c.requires)

pub loop-table-init : goal.loop-table-init
loop-table-init g c = grind (arith, common_steps)

pub pop-requires : goal.pop-requires
pop-requires g c =
    let i = c.loop-table.invariant in
    let e : c.loop-table.tables.cost * length c.loop-table.tables.items ≡ 24 * length c.loop-table.tables.items =
    ap (λ n. n * length c.loop-table.tables.items) i.each in
    omega (arith, e, each_costs c.loop-table.tables.items, i.rest, c.requires)

pub release-requires-in-Some : goal.release-requires-in-Some
release-requires-in-Some g c =
    let i = c.loop-table.invariant in
    let k : catalog_cost c.loop-table.tables.items ≡ catalog_cost c.pop.new.self.items + (32 + shared_cost c.in-Some.table) =
    cost_without c.loop-table.tables.items c.pop.new.self.items c.in-Some.table c.in-Some.ensures.items in
    let n = long_without c.loop-table.tables.items c.pop.new.self.items c.in-Some.table c.in-Some.ensures.items in
    omega (arith, k, n, each_costs c.pop.new.self.items, i.each, i.rest, c.requires, c.in-Some.ensures.cost.held)

pub loop-table-preserved : goal.loop-table-preserved
loop-table-preserved g c =
    let i = c.loop-table.invariant in
    let k : catalog_cost c.loop-table.tables.items ≡ catalog_cost c.pop.new.self.items + (32 + shared_cost c.in-Some.table) =
    cost_without c.loop-table.tables.items c.pop.new.self.items c.in-Some.table c.in-Some.ensures.items in
    let n = long_without c.loop-table.tables.items c.pop.new.self.items c.in-Some.table c.in-Some.ensures.items in
    record {
      each = c.in-Some.ensures.same_cost ∙ i.each;
      rest = omega (arith, k, n, i.each, i.rest, c.requires, c.in-Some.ensures.cost.held, c.release-in-Some.ensures.held);
      peak = c.release-in-Some.ensures.peak ∙ (c.in-Some.ensures.cost.peak ∙ i.peak);
      refused = c.release-in-Some.ensures.refused ∙ (c.in-Some.ensures.cost.refused ∙ i.refused);
    }

pub loop-table-smaller : goal.loop-table-smaller
loop-table-smaller g c = grind (arith, common_steps)

pub release-requires-2 : goal.release-requires-2
release-requires-2 g c = grind (arith, common_steps)

pub returns : goal.returns
returns g c = grind (arith, common_steps)
