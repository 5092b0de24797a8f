use Rattle.std.proofs.Common.{◌≡◌, ◌+◌, ◌≤◌, None}
use Rattle.ion_symbols.specs.User.{IsReady, owned_by}
use Rattle.ion_value.specs.Feeding.{CanTake}
use Rattle.ion_binary_tests.proofs.fast_path.turns_by.Given as goal

abbrev pub invariant-items : goal.invariant-items
invariant-items g l =
    let r = g.R.RawReader in
    let w = g.W.ValueWriter in
    record {
      ready : IsReady r.sound r.opened r.failed r.ended l.reader;
      going : l.reader.failed ≡ None;
      writer : CanTake w (r.depth l.reader.raw) (r.opened l.reader.raw) l.writer l.sink;
      held : owned_by r.own l.reader + w.own l.writer ≤ l.meter.held;
    }
