use Rattle.std.proofs.Common.{◌≤◌}
use Rattle.ion_symbols.specs.Table.{catalog_cost}
use Rattle.ion_core_tests.proofs.symbols.catalogs.add_many.Given as goal

abbrev pub invariant-loop-number : goal.invariant-loop-number
invariant-loop-number g l = catalog_cost l.shelf.catalog ≤ l.shelf.meter.held

abbrev pub invariant-loop-rank : goal.invariant-loop-rank
invariant-loop-rank g l = catalog_cost l.shelf.catalog ≤ l.shelf.meter.held
