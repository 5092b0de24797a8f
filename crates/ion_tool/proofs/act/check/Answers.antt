use Rattle.std.proofs.Common.{option_map, Result, subst}
use Rattle.ion_meter.specs.declared.fault.Fault.{Fault}
use Rattle.ion_transcode.specs.declared.to.Summary.{Summary}
use Rattle.ion_transcode.specs.declared.to.To.TheVariants as to
use Rattle.ion_tool.specs.Serving.{label_of, Transcoded}
use Rattle.ion_tool.proofs.Acts.{said, checked_fault, still_kept}
use Rattle.ion_tool.proofs.act.check.Goals as goal

pub returns-in-Ok-clause-answered : goal.returns-in-Ok-clause-answered
returns-in-Ok-clause-answered g c i o =
    let run_stream = c.run_stream-answer.ensures in
    let found = (run_stream.transcoded i).accepted c.in-Ok.summary c.in-Ok.is in
    let is = found.1 in
    let out = run_stream.kept.still_observable.1 o in
    let say = c.say_count-said.ensures in
    said c.one_verdict.ensures (label_of (option_map (λ s. s.now) c.args.label)) c.args.task c.args.catalog.now c.args.limits (g.I.Input.rest c.args.input) (g.O.Output.written c.args.out) (g.O.Output.written c.run_stream-answer.result.2) (g.O.Output.written c.say_count-said.new.out)
    c.in-Ok.summary is.output is.has_verdict found.0 (is.written o) c.say_count-said.result say.ok (λ f e. (say.fault f e).0) say.steady (say.put.whole out) (say.put.prefix out)

pub returns-in-Err-clause-answered : goal.returns-in-Err-clause-answered
returns-in-Err-clause-answered g c i o =
    let bytes = g.I.Input.rest c.args.input in
    let before = g.O.Output.written c.args.out in
    let after = g.O.Output.written c.run_stream-answer.result.2 in
    let observable = g.O.Output.observable c.args.out in
    checked_fault (label_of (option_map (λ s. s.now) c.args.label)) c.args.task c.args.catalog.now c.args.limits bytes before after observable o c.in-Err.fault
    (subst (λ (r : Result Summary Fault). Transcoded c.args.task.profile c.args.catalog.now c.args.limits to.Nothing bytes observable before after r) c.in-Err.is (c.run_stream-answer.ensures.transcoded i))

pub returns-in-Ok-clause-kept : goal.returns-in-Ok-clause-kept
returns-in-Ok-clause-kept g c =
    let say = c.say_count-said.ensures in
    still_kept g.I.Input g.O.Output _ c.in-Ok.summary c.run_stream-answer.result.0 _ _ _ _ _ c.run_stream-answer.result.2 _ _ c.in-Ok.is c.run_stream-answer.ensures.kept
    c.say_count-said.result say.ok say.fault say.steady say.put
