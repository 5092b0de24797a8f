use Rattle.std.proofs.Common.{◌≤◌}
use Rattle.ion_symbols.specs.Output.{texts_cost}
use Rattle.ion_core_tests.proofs.symbols.outputs.a_text_of_many_is_known_in_few_probes.Given as goal

abbrev pub invariant-loop-number : goal.invariant-loop-number
invariant-loop-number g l = texts_cost l.texting.texts.texts ≤ l.texting.meter.held
