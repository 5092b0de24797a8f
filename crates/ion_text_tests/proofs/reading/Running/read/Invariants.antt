use Rattle.std.proofs.Common.{◌≤◌}
use Rattle.ion_text_tests.proofs.reading.Running.read.Given as goal

abbrev pub invariant-items : goal.invariant-items
invariant-items g l =
    let r = g.R.RawReader in
    record {
      sound : r.sound l.self.reader;
      held : r.own l.self.reader ≤ l.self.meter.held;
    }
