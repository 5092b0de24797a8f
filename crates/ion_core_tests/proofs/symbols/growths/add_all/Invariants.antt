use Rattle.std.proofs.Common.{◌≤◌}
use Rattle.ion_symbols.specs.Table.{catalog_cost}
use Rattle.ion_core_tests.proofs.symbols.growths.add_all.Given as goal

abbrev pub invariant-name : goal.invariant-name
invariant-name g l = catalog_cost l.catalog ≤ l.meter.held
