use Rattle.std.proofs.Common.{◌≡◌, ◌+◌, ◌≤◌, ◌↔◌, length, None}
use Rattle.ion_meter.specs.Windows.{so_far, HasPrefix}
use Rattle.ion_value.specs.Shares.{Charges}
use Rattle.ion_value.proofs.Outcomes.{Walk}
use Rattle.ion_symbols.specs.User.{IsReady, coming_to, owned_by, share_of}
use Rattle.ion_transcode.proofs.Following.{Followed}
use Rattle.ion_transcode.proofs.copy_items.copy_items.Given as goal

abbrev pub invariant-items : goal.invariant-items
invariant-items g l =
    let r = g.R.RawReader in
    let w = g.W.ValueWriter in
    let o = g.O.Output in
    let limits = w.limits l.fn.writer in
    record {
      walk : Walk (w.stands l.writer) (w.puts limits) (w.refusal limits) (r.observable l.fn.reader.raw) (o.observable l.fn.sink.device) (r.opened l.reader.raw) l.at.values
          (coming_to r.reading l.fn.reader) (coming_to r.reading l.reader) (so_far o.written l.fn.sink) (so_far o.written l.sink);
      followed : Followed (w.stands l.writer) (r.observable l.fn.reader.raw) (r.opened l.reader.raw) (coming_to r.reading l.fn.reader) (coming_to r.reading l.reader);
      read : r.observable l.reader.raw ↔ r.observable l.fn.reader.raw;
      taken : r.read_on l.fn.reader.raw l.reader.raw;
      written : o.observable l.sink.device ↔ o.observable l.fn.sink.device;
      prefix : o.observable l.fn.sink.device → HasPrefix (so_far o.written l.sink) (o.written l.sink.device);
      grown : o.observable l.fn.sink.device → HasPrefix (o.written l.sink.device) (o.written l.fn.sink.device);
      ready : IsReady r.sound r.opened r.failed r.ended l.reader;
      well : l.reader.failed ≡ None;
      writer : w.sound l.writer;
      fresh : w.failed l.writer ≡ None;
      sink : l.sink.fault ≡ None;
      level : length (r.opened l.reader.raw) ≡ l.at.level;
      left : l.at.values + r.left l.reader.raw ≤ r.left l.fn.reader.raw;
      limits : w.limits l.writer ≡ limits;
      depth : r.depth l.reader.raw ≡ r.depth l.fn.reader.raw;
      refused : l.meter.refused ≡ l.fn.meter.refused;
      failures : r.failures l.reader.raw ≡ r.failures l.fn.reader.raw;
      device : o.failure_count l.sink.device ≡ o.failure_count l.fn.sink.device;
      exceeds : r.exceeds l.reader.raw ↔ r.exceeds l.fn.reader.raw;
      bytes_left : r.bytes_left l.reader.raw → r.bytes_left l.fn.reader.raw;
      most : r.most l.reader.raw ≡ r.most l.fn.reader.raw;
      same : l.reader.limits ≡ l.fn.reader.limits;
      writer_most : w.most l.writer ≡ w.most l.fn.writer;
      charges : Charges l.fn.meter l.meter (owned_by r.own l.fn.reader + w.own l.fn.writer) (owned_by r.own l.reader + w.own l.writer) (share_of r.most l.fn.reader + w.most l.fn.writer);
    }

abbrev pub decreases-items : goal.decreases-items
decreases-items g l = g.R.RawReader.left l.reader.raw
