use Rattle.std.proofs.Common.{◌≤◌}
use Rattle.ion_symbols.specs.Table.{shared_cost}
use Rattle.ion_core_tests.proofs.symbols.growths.push_all.Given as goal

abbrev pub invariant-slot : goal.invariant-slot
invariant-slot g l = shared_cost l.table ≤ l.meter.held
