use Rattle.std.proofs.Common.{rules, ◌∙◌, refl}
use Rattle.ion_meter.proofs.ReadOn.{read_on-not, read_on-then}
use Rattle.ion_tool.specs.Counting.{counter_input}
use Rattle.ion_tool.proofs.Counted.{read-once}
use Rattle.ion_tool.proofs.counter.LineCounter.read_to.Goals as goal

pub loop-into-init : goal.loop-into-init
loop-into-init g c = record { reads = read_on-not (counter_input g.I.Input) c.args.self.now; steady = refl; into = refl }

pub loop-into-preserved : goal.loop-into-preserved
loop-into-preserved g c =
    let device = counter_input g.I.Input in
    let i = c.loop-into.invariant in
    let read = c.read.ensures in
    record {
      reads = read_on-then device c.args.self.now c.loop-into.self c.read.new.self i.reads
          (read-once device c.loop-into.self c.read.new.self c.read.new.into c.read.result read.yields read.observable read.bytes);
      steady = c.in-Ok.ensures.count ∙ i.steady;
      into = search rules;
    }

pub returns-in-Ok-eq0-clause-reads : goal.returns-in-Ok-eq0-clause-reads
returns-in-Ok-eq0-clause-reads g c =
    let device = counter_input g.I.Input in
    let read = c.read.ensures in
    read_on-then device c.args.self.now c.loop-into.self c.read.new.self c.loop-into.invariant.reads
    (read-once device c.loop-into.self c.read.new.self c.read.new.into c.read.result read.yields read.observable read.bytes)

pub returns-in-Err-clause-reads : goal.returns-in-Err-clause-reads
returns-in-Err-clause-reads g c =
    let device = counter_input g.I.Input in
    let read = c.read.ensures in
    read_on-then device c.args.self.now c.loop-into.self c.read.new.self c.loop-into.invariant.reads
    (read-once device c.loop-into.self c.read.new.self c.read.new.into c.read.result read.yields read.observable read.bytes)
