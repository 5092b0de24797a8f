use Rattle.std.proofs.Common.{◌≡◌}
use Rattle.ion_core_tests.proofs.meter.shapes.an_entry_of_a_table_has_its_cost.Given as goal

abbrev pub invariant-loop-call : goal.invariant-loop-call
invariant-loop-call g l = l.table.cost ≡ 24
