use Rattle.std.proofs.Common.{◌≤◌}
use Rattle.ion_symbols.specs.Output.{texts_cost}
use Rattle.ion_core_tests.proofs.symbols.outputs.texts_of_one_hash_have_their_ids.Given as goal

abbrev pub invariant-loop-known : goal.invariant-loop-known
invariant-loop-known g l = texts_cost l.texting.texts.texts ≤ l.texting.meter.held
