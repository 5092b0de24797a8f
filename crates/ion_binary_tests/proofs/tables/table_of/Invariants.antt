use Rattle.std.proofs.Common.{◌≤◌}
use Rattle.ion_symbols.specs.Table.{shared_cost}
use Rattle.ion_binary_tests.proofs.tables.table_of.Given as goal

abbrev pub invariant-loop-text : goal.invariant-loop-text
invariant-loop-text g l = shared_cost l.table ≤ l.meter.held
