use Rattle.std.proofs.Common.{length, ◌-◌, ◌≡◌, ◌≤◌, ◌++◌, ◌↔◌, take, None}
use Rattle.ion_meter.specs.Windows.{so_far, HasPrefix}
use Rattle.ion_meter.proofs.sink.Sink.put_slowly.Given as goal

abbrev pub invariant-loop-at : goal.invariant-loop-at
invariant-loop-at g l = record {
  within : l.at ≤ length l.bytes;
  well : l.self.fault ≡ None;
  begun : l.initial.self.fault ≡ None;
  count : g.O.Output.failure_count l.self.device ≡ g.O.Output.failure_count l.initial.self.device;
  observable : g.O.Output.observable l.self.device ↔ g.O.Output.observable l.initial.self.device;
  grown : g.O.Output.observable l.initial.self.device → HasPrefix (g.O.Output.written l.self.device) (g.O.Output.written l.initial.self.device);
  bytes : g.O.Output.observable l.initial.self.device → so_far g.O.Output.written l.self ≡ so_far g.O.Output.written l.initial.self ++ take l.at l.bytes;
}

abbrev pub decreases-loop-at : goal.decreases-loop-at
decreases-loop-at g l = length l.bytes - l.at
