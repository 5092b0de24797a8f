use Rattle.std.proofs.Common.{◌≡◌, ◌+◌, List}
use Rattle.std.specs.Prelude.{[], None}
use Rattle.ion_value.specs.Standing.{open_after_all}
use Rattle.ion_value.specs.Value.{PlacedItem}
use Rattle.ion_binary_tests.proofs.written.put_all.Given as goal

abbrev pub invariant-steps : goal.invariant-steps
invariant-steps g l =
    let w = g.W.ValueWriter in
    record {
      sound : w.sound l.writer;
      well : w.failed l.writer ≡ None;
      sink : l.sink.fault ≡ None;
      stands : (path : List PlacedItem) × w.stands l.writer path × (open_after_all [] path ≡ l.kinds.items);
      depth : (w.limits l.writer).depth ≡ l.depth;
      held : l.meter.held ≡ 4096 + w.own l.writer;
    }
