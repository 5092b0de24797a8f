use Rattle.std.proofs.Common.{◌≤◌}
use Rattle.ion_symbols.specs.Table.{shared_cost}
use Rattle.ion_core_tests.proofs.symbols.shared_tables.make_all.Given as goal

abbrev pub invariant-loop-call : goal.invariant-loop-call
invariant-loop-call g l = shared_cost l.table ≤ l.meter.held
