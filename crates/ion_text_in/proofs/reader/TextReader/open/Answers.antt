use Rattle.std.proofs.Common.{ap, length, arith}
use Rattle.ion_meter.specs.declared.fault.Reason.TheVariants.{DepthLimit}
use Rattle.ion_text_in.specs.Steps.{opened_in}
use Rattle.ion_text_in.proofs.ReaderCalls.{steps-refused}
use Rattle.ion_text_in.proofs.ReaderSteps.{opening-refused, steps-opened}
use Rattle.ion_text_in.proofs.reader.TextReader.open.Goals as goal

pub returns-then-from-as_slice : goal.returns-then-from-as_slice
returns-then-from-as_slice g c =
    let r = c.args.self.now in
    let can = c.requires.can_step in
    steps-refused g.I.Input r c.args.meter.now _ _ 16 DepthLimit c.args.place can.sized can.held
    (λ d. opening-refused r c.args.kind c.args.place d c.requires.value (omega (arith, c.if-from-as_slice.true, c.from.ensures, ap length c.as_slice.ensures)))

pub returns : goal.returns
returns g c =
    let e = c.at_member-self.ensures in
    let r = c.args.self.now in
    steps-opened g.I.Input r c.args.kind c.push.new.self c.at_member-self.result c.args.place c.top_at-top.result c.args.meter.now c.push.new.meter c.in_default.ensures.ok c.top_at-top.ensures
    (omega (arith, c.if-from-as_slice.false, c.from.ensures, ap length c.as_slice.ensures)) e.is (e.may (opened_in r)) c.requires.can_step c.requires.value c.in_default.ensures.cost
