use Rattle.std.proofs.Common.{◌≡◌, ◌↔◌, None}
use Rattle.ion_value.specs.Shares.{Charges}
use Rattle.ion_transcode.specs.PartCalls.{HasTaken}
use Rattle.ion_transcode.proofs.PartItems.{Counting}
use Rattle.ion_transcode.proofs.in_parts.counting.count_items.Given as goal

abbrev pub invariant-items : goal.invariant-items
invariant-items g l =
    let r = g.R.RawReader in
    record {
      counting : Counting (λ path. (l.counter.writer.failed ≡ None) × HasTaken path l.counter.items l.counter.is_firm) (r.observable l.fn.raw) (r.opened l.raw) (r.reading l.fn.raw) (r.reading l.raw) l.fn.at l.is_marked;
      well : l.counter.writer.failed ≡ None;
      limits : l.counter.writer.limits ≡ l.fn.limits;
      sink : l.sink.fault ≡ None;
      observable : r.observable l.raw ↔ r.observable l.fn.raw;
      sound : r.sound l.raw;
      fresh : r.failed l.raw ≡ None;
      depth : r.depth l.raw ≡ r.depth l.fn.raw;
      refused : l.meter.refused ≡ l.fn.meter.refused;
      most : r.most l.raw ≡ r.most l.fn.raw;
      charges : Charges l.fn.meter l.meter (r.own l.fn.raw) (r.own l.raw) (r.most l.fn.raw);
    }

abbrev pub decreases-items : goal.decreases-items
decreases-items g l = g.R.RawReader.left l.raw
