use Rattle.std.proofs.Common.{◌≡◌, ◌+◌, ◌≤◌, ◌↔◌, None, length}
use Rattle.ion_value.specs.Shares.{Charges}
use Rattle.ion_symbols.specs.Users.{users, declaring}
use Rattle.ion_symbols.specs.Buffer.{declaring_of, own_of, IsPending, depth_of}
use Rattle.ion_symbols.proofs.buffer.gather.Given as goal

abbrev pub invariant-items : goal.invariant-items
invariant-items g l =
    let r = g.R.RawReader in
    record {
      sound : r.sound l.raw;
      pending : IsPending l.limit l.symbols.table l.buffer;
      level : length (r.opened l.raw) ≡ depth_of (declaring_of l.symbols.catalog l.buffer);
      fresh : r.failed l.fn.raw ≡ None → r.failed l.raw ≡ None;
      observable : r.observable l.fn.raw ↔ r.observable l.raw;
      read_on : r.read_on l.fn.raw l.raw;
      coming : r.observable l.fn.raw
          → users l.symbols.catalog l.limit (record { table = l.symbols.table; mode = declaring (declaring_of l.symbols.catalog l.fn.buffer) }) (r.reading l.fn.raw)
          ≡ users l.symbols.catalog l.limit (record { table = l.symbols.table; mode = declaring (declaring_of l.symbols.catalog l.buffer) }) (r.reading l.raw);
      left : r.left l.raw ≤ r.left l.fn.raw;
      refused : l.meter.refused ≡ l.fn.meter.refused;
      failures : r.failures l.raw ≡ r.failures l.fn.raw;
      exceeds : r.exceeds l.fn.raw ↔ r.exceeds l.raw;
      bytes_left : r.bytes_left l.raw → r.bytes_left l.fn.raw;
      depth : r.depth l.raw ≡ r.depth l.fn.raw;
      most : r.most l.raw ≡ r.most l.fn.raw;
      charges : Charges l.fn.meter l.meter (r.own l.fn.raw + own_of l.fn.buffer) (r.own l.raw + own_of l.buffer) (r.most l.fn.raw + l.limit);
    }

abbrev pub decreases-items : goal.decreases-items
decreases-items g l = g.R.RawReader.left l.raw
