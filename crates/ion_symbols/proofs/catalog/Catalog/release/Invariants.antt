use Rattle.std.proofs.Common.{◌≡◌, ◌+◌, ◌*◌, length}
use Rattle.ion_symbols.specs.Table.{catalog_cost}
use Rattle.ion_symbols.proofs.catalog.Catalog.release.Given as goal

-- what the tables that are left cost is still held, but for their places
abbrev pub invariant-loop-table : goal.invariant-loop-table
invariant-loop-table g l = record {
  each : l.tables.cost ≡ 24;
  rest : l.meter.held + 8 * length l.tables.items + catalog_cost l.fn.self ≡ l.fn.meter.held + catalog_cost l.tables.items;
  peak : l.meter.peak ≡ l.fn.meter.peak;
  refused : l.meter.refused ≡ l.fn.meter.refused;
}

abbrev pub decreases-loop-table : goal.decreases-loop-table
decreases-loop-table g l = length l.tables.items
