use Rattle.std.proofs.Common.{rules, ◌≡◌, [], refl, subst, arith}
use Rattle.std.proofs.lemmas.Grind.{common_steps}
use Rattle.ion_meter.specs.Windows.{so_far}
use Rattle.ion_value.specs.Reading.{Reading}
use Rattle.ion_value.specs.Outcome.{output_after}
use Rattle.ion_value.proofs.Outcomes.{prefix-then}
use Rattle.ion_symbols.specs.Users.{at_start, users}
use Rattle.ion_symbols.specs.User.{coming_to}
use Rattle.ion_transcode.specs.Calls.{WritesOutput}
use Rattle.ion_transcode.proofs.copy_stream.copy_stream.Goals as goal

pub returns-clause-writes : goal.returns-clause-writes
returns-clause-writes g c r o =
    let w = g.W.ValueWriter in
    let limits = w.limits c.args.writer.now in
    let reads = g.R.RawReader.reading in
    let copy_items = c.copy_items-outcome.ensures in
    let new = c.new-reader.ensures in
    let before = so_far g.O.Output.written c.args.sink.now in
    let observable : g.R.RawReader.observable c.new-reader.result.raw = rw new.raw.0 r in
    let same : coming_to reads c.new-reader.result ≡ users c.args.catalog.now c.args.limits.symbols at_start (reads c.args.raw) = rw (new.raw.0, new.table.0, new.table.1.0, new.table.1.1.0, new.table.1.1.1) refl in
    subst (λ (x : Reading). WritesOutput (output_after (w.puts limits) (w.refusal limits) [] x) c.finish-outcome.result before (g.O.Output.written c.finish-outcome.new.sink.device)) same
    (c.finish-outcome.ensures.writes (copy_items.causes.still_observable.1 o) _ before (copy_items.puts observable o))

pub returns-clause-causes : goal.returns-clause-causes
returns-clause-causes g c =
    let copied = c.copy_items-outcome.ensures.causes in
    let finished = c.finish-outcome.ensures in
    record {
      memory = search rules;
      counted = search rules;
      read = search rules;
      reads_steady = search rules;
      write = search rules;
      steady = search rules;
      still_observable = search rules;
      grown = λ o. prefix-then _ _ _ (finished.grown (copied.still_observable.1 o)) (copied.grown o);
      limit = search rules;
    }

pub returns-clause-charges : goal.returns-clause-charges
returns-clause-charges g c = grind (arith, common_steps)

pub returns-clause-stands : goal.returns-clause-stands
returns-clause-stands g c = grind (arith, common_steps)

pub release-raw-requires : goal.release-raw-requires
release-raw-requires g c = grind (arith, common_steps)

pub returns-clause-input : goal.returns-clause-input
returns-clause-input g c = grind (arith, common_steps)

pub returns-clause-bytes : goal.returns-clause-bytes
returns-clause-bytes g c = grind (arith, common_steps)

pub copy_items-outcome-requires-clause-writer : goal.copy_items-outcome-requires-clause-writer
copy_items-outcome-requires-clause-writer g c = grind (arith, common_steps)

pub copy_items-outcome-requires-clause-reader : goal.copy_items-outcome-requires-clause-reader
copy_items-outcome-requires-clause-reader g c = grind (arith, common_steps)
