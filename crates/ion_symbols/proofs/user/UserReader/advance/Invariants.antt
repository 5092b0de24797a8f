use Rattle.std.proofs.Common.{◌≡◌, ◌≤◌, ◌↔◌, None}
use Rattle.ion_value.specs.Shares.{Charges}
use Rattle.ion_symbols.specs.User.{IsReady, coming_to, owned_by, share_of}
use Rattle.ion_symbols.proofs.user.UserReader.advance.Given as goal

abbrev pub invariant-loop-fault : goal.invariant-loop-fault
invariant-loop-fault g l =
    let r = g.R.RawReader in
    record {
      ready : IsReady r.sound r.opened r.failed r.ended l.self;
      well : l.self.failed ≡ None;
      observable : r.observable l.fn.self.raw ↔ r.observable l.self.raw;
      read_on : r.read_on l.fn.self.raw l.self.raw;
      coming : r.observable l.fn.self.raw → coming_to r.reading l.fn.self ≡ coming_to r.reading l.self;
      opened : r.opened l.self.raw ≡ r.opened l.fn.self.raw;
      stays : r.ended l.fn.self.raw → (l.self ≡ l.fn.self) × (l.meter ≡ l.fn.meter);
      limits : l.self.limits ≡ l.fn.self.limits;
      catalog : l.self.symbols.catalog ≡ l.fn.self.symbols.catalog;
      failed : l.self.failed ≡ l.fn.self.failed;
      left : r.left l.self.raw ≤ r.left l.fn.self.raw;
      refused : l.meter.refused ≡ l.fn.meter.refused;
      failures : r.failures l.self.raw ≡ r.failures l.fn.self.raw;
      exceeds : r.exceeds l.fn.self.raw ↔ r.exceeds l.self.raw;
      bytes_left : r.bytes_left l.self.raw → r.bytes_left l.fn.self.raw;
      depth : r.depth l.self.raw ≡ r.depth l.fn.self.raw;
      most : r.most l.self.raw ≡ r.most l.fn.self.raw;
      charges : Charges l.fn.meter l.meter (owned_by r.own l.fn.self) (owned_by r.own l.self) (share_of r.most l.fn.self);
    }

abbrev pub decreases-loop-fault : goal.decreases-loop-fault
decreases-loop-fault g l = g.R.RawReader.left l.self.raw
