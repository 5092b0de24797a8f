use Rattle.std.proofs.Common.{◌≤◌}
use Rattle.ion_symbols.specs.User.{IsReady, owned_by}
use Rattle.ion_binary_tests.proofs.reading.read_users.Given as goal

abbrev pub invariant-items : goal.invariant-items
invariant-items g l =
    let r = g.R.RawReader in
    record {
      ready : IsReady r.sound r.opened r.failed r.ended l.reader;
      held : owned_by r.own l.reader ≤ l.meter.held;
    }
