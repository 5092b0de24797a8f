use Rattle.std.proofs.Common.{◌≤◌}
use Rattle.ion_binary_tests.proofs.reading.read_raw.Given as goal

abbrev pub invariant-items : goal.invariant-items
invariant-items g l =
    let r = g.R.RawReader in
    record {
      sound : r.sound l.reader;
      held : r.own l.reader ≤ l.meter.held;
    }
