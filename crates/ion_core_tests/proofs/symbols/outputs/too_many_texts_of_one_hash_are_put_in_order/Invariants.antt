use Rattle.std.proofs.Common.{◌≤◌}
use Rattle.ion_symbols.specs.Output.{texts_cost}
use Rattle.ion_core_tests.proofs.symbols.outputs.too_many_texts_of_one_hash_are_put_in_order.Given as goal

abbrev pub invariant-loop-number : goal.invariant-loop-number
invariant-loop-number g l = texts_cost l.texting.texts.texts ≤ l.texting.meter.held
