use Rattle.std.proofs.Common.{◌≡◌, length}
use Rattle.ion_meter.specs.Devices.{IsReadOn}
use Rattle.ion_tool.specs.Counting.{counter_input}
use Rattle.ion_tool.proofs.Counted.{left_to}
use Rattle.ion_tool.proofs.counter.LineCounter.read_to.Given as goal

abbrev pub invariant-loop-into : goal.invariant-loop-into
invariant-loop-into g l = record {
  reads : IsReadOn (counter_input g.I.Input) l.initial.self l.self;
  steady : g.I.Input.failure_count l.self.device ≡ g.I.Input.failure_count l.initial.self.device;
  into : length l.into ≡ 512;
}

abbrev pub decreases-loop-into : goal.decreases-loop-into
decreases-loop-into g l = left_to l.place l.self.marks
