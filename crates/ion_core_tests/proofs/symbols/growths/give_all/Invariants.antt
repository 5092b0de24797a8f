use Rattle.std.proofs.Common.{◌≤◌}
use Rattle.ion_symbols.specs.Output.{texts_cost}
use Rattle.ion_core_tests.proofs.symbols.growths.give_all.Given as goal

abbrev pub invariant-text : goal.invariant-text
invariant-text g l = texts_cost l.texts.texts ≤ l.meter.held
