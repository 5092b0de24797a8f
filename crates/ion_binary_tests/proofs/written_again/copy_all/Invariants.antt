use Rattle.std.proofs.Common.{◌≡◌, ◌+◌, ◌≤◌, List}
use Rattle.std.specs.Prelude.{[]}
use Rattle.ion_symbols.specs.User.{IsReady, owned_by}
use Rattle.ion_value.specs.Standing.{open_after_all}
use Rattle.ion_value.specs.Value.{PlacedItem}
use Rattle.ion_binary_tests.proofs.written_again.copy_all.Given as goal

abbrev pub invariant-items : goal.invariant-items
invariant-items g l =
    let r = g.R.RawReader in
    let w = g.W.ValueWriter in
    record {
      ready : IsReady r.sound r.opened r.failed r.ended l.reader;
      sound : w.sound l.writer;
      stands : (path : List PlacedItem) × w.stands l.writer path × (open_after_all [] path ≡ r.opened l.reader.raw);
      depth : (w.limits l.writer).depth ≡ r.depth l.reader.raw;
      held : 4096 + owned_by r.own l.reader + w.own l.writer ≤ l.meter.held;
    }
