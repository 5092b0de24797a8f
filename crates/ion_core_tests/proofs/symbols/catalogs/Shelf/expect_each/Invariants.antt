use Rattle.std.proofs.Common.{◌≤◌}
use Rattle.ion_symbols.specs.Table.{catalog_cost}
use Rattle.ion_core_tests.proofs.symbols.catalogs.Shelf.expect_each.Given as goal

abbrev pub invariant-loop-step : goal.invariant-loop-step
invariant-loop-step g l = catalog_cost l.self.catalog ≤ l.self.meter.held
