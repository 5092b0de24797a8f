use Rattle.std.proofs.Common.{arith, [], option_map, Err, subst, sym}
use Rattle.ion_meter.proofs.ReadOn.{read_on-then}
use Rattle.ion_meter.specs.declared.fault.Fault.TheVariants.{Memory}
use Rattle.ion_tool.specs.Counting.{counter_input}
use Rattle.ion_tool.specs.Serving.{found_text, label_of, IsAnswered}
use Rattle.ion_tool.proofs.Counted.{counts-reads}
use Rattle.ion_tool.proofs.Placing.{comes, given_back, onward, room, suffixed}
use Rattle.ion_tool.proofs.Serves.{answered, kept, none-answered, none-kept, none-suffixed}
use Rattle.ion_tool.proofs.serve.serve_input.Goals as goal

-- there is no memory to count lines
pub returns-in-Err-clause-served : goal.returns-in-Err-clause-served
returns-in-Err-clause-served g c =
    let asked = c.args.manner.task in
    let new = c.in-Err.ensures in
    record {
      answer = Err Memory;
      status_is = c.report_at-status.ensures.status;
      answered = λ i o. none-answered _ c.args.catalog.now asked c.args.manner.limits (g.I.Input.rest c.args.input) (g.O.Output.written c.args.out);
      kept = none-kept g.I.Input g.O.Output asked c.args.manner.limits c.args.meter.now c.new.new.meter c.args.input c.in-Err.input c.args.out new.err new.charges new.wanted;
      suffix = [];
      suffixed = none-suffixed g.I.Input asked.lines c.args.input c.in-Err.input new.err;
      said = c.report_at-status.ensures.said;
    }

pub release-requires : goal.release-requires
release-requires g c =
    let first = c.in-Ok.counter in
    let middle = c.act-answer.result.1 in
    let last = c.place-answer.new.self in
    let after = onward g.I.Input middle last c.act-answer.result.0 c.place-answer.result.0 c.place-answer.result.1 c.place-answer.ensures in
    let on = read_on-then (counter_input g.I.Input) first middle last c.act-answer.ensures.taken after in
    room c.args.manner.task.lines first.marks last.marks on.bytes c.act-answer.new.meter.held c.in-Ok.ensures.ok.1 (counts-reads g.I.Input first last on.bytes on.reads)
    (omega (arith, c.act-answer.ensures.kept.held, c.in-Ok.ensures.charges.held))

pub returns-clause-served : goal.returns-clause-served
returns-clause-served g c =
    let asked = c.args.manner.task in
    let limits = c.args.manner.limits in
    let label = label_of (option_map (λ s. s.now) c.args.manner.label) in
    let first = c.in-Ok.counter in
    let middle = c.act-answer.result.1 in
    let last = c.place-answer.new.self in
    let run = c.act-answer.ensures in
    let begins = c.in-Ok.ensures in
    let placed = c.place-answer.ensures in
    let answer = c.act-answer.result.0 in
    let result = c.place-answer.result.0 in
    let found = c.place-answer.result.1 in
    let come = comes g.I.Input middle last answer result found placed in
    let after = onward g.I.Input middle last answer result found placed in
    let on = read_on-then (counter_input g.I.Input) first middle last run.taken after in
    let gives = given_back asked.lines first.marks last.marks on.bytes c.act-answer.new.meter c.release.new.meter begins.ok.1 (counts-reads g.I.Input first last on.bytes on.reads) c.release.ensures.cost in
    let before = g.O.Output.written c.args.out in
    let written = g.O.Output.written c.act-answer.result.2 in
    rw c.release.ensures.device (record {
      answer = result;
      status_is = c.report_at-status-2.ensures.status;
      answered = λ i o. answered g.I.Input middle.device last.device label c.args.catalog.now asked limits (g.I.Input.rest c.args.input) before written answer result come
          (subst (λ d. IsAnswered label c.args.catalog.now asked limits (g.I.Input.rest d) before written answer) begins.ok.0 (run.answered (subst (λ d. g.I.Input.observable d) (sym begins.ok.0) i) o));
      kept = kept g.I.Input g.O.Output asked limits answer result c.args.meter.now c.new.new.meter c.act-answer.new.meter c.release.new.meter first middle last c.args.input c.args.out
          c.act-answer.result.2 begins.ok.0 begins.charges begins.refused run.kept gives.0 gives.1 gives.2 after come;
      suffix = found_text found;
      suffixed = suffixed g.I.Input asked.lines first middle last c.args.input begins.ok.0 begins.ok.1 run.taken answer result found placed;
      said = c.report_at-status-2.ensures.said;
    })
