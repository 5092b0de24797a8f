use Rattle.std.proofs.Common.{◌≡◌, None, List, []}
use Rattle.ion_value.specs.Shares.{Charges}
use Rattle.ion_value.specs.Standing.{open_after_all}
use Rattle.ion_value.specs.Value.{PlacedItem}
use Rattle.ion_transcode.proofs.in_parts.finding.search.Given as goal

abbrev pub invariant-items : goal.invariant-items
invariant-items g l =
    let r = g.R.RawReader in
    record {
      after : (path : List PlacedItem) × (l.finder.writer.failed ≡ None) × (open_after_all [] path ≡ r.opened l.raw);
      limits : l.finder.writer.limits ≡ l.fn.finder.writer.limits;
      sink : l.sink.fault ≡ None;
      sound : r.sound l.raw;
      fresh : r.failed l.raw ≡ None;
      depth : r.depth l.raw ≡ r.depth l.fn.raw;
      refused : l.meter.refused ≡ l.fn.meter.refused;
      most : r.most l.raw ≡ r.most l.fn.raw;
      charges : Charges l.fn.meter l.meter (r.own l.fn.raw) (r.own l.raw) (r.most l.fn.raw);
    }

abbrev pub decreases-items : goal.decreases-items
decreases-items g l = g.R.RawReader.left l.raw
