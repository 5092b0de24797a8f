use Rattle.std.proofs.Common.{◌+◌, ◌≤◌}
use Rattle.ion_symbols.specs.Table.{catalog_cost, shared_cost}
use Rattle.ion_core_tests.proofs.symbols.catalogs.Shelf.table.Given as goal

abbrev pub invariant-loop-text : goal.invariant-loop-text
invariant-loop-text g l = catalog_cost l.self.catalog + shared_cost l.table ≤ l.self.meter.held
