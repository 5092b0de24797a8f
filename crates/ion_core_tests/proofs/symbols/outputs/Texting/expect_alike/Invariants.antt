use Rattle.std.proofs.Common.{◌≤◌}
use Rattle.ion_symbols.specs.Output.{texts_cost}
use Rattle.ion_core_tests.proofs.symbols.outputs.Texting.expect_alike.Given as goal

abbrev pub invariant-loop-number : goal.invariant-loop-number
invariant-loop-number g l = texts_cost l.self.texts.texts ≤ l.self.meter.held
