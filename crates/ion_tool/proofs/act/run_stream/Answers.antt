use Rattle.std.proofs.Common.{subst}
use Rattle.ion_transcode.specs.declared.to.To.{To}
use Rattle.ion_tool.specs.Serving.{Transcoded}
use Rattle.ion_tool.proofs.act.run_stream.Goals as goal

pub returns-clause-transcoded : goal.returns-clause-transcoded
returns-clause-transcoded g c i =
    let run = c.run_with.ensures in
    let bytes = g.I.Input.rest c.args.input in
    let observable = g.O.Output.observable c.args.out in
    let before = g.O.Output.written c.args.out in
    let after = g.O.Output.written c.run_with.result.2 in
    let asked : Transcoded c.args.task.profile c.args.catalog.now c.args.limits c.to_for-to.result bytes observable before after c.run_with.result.0 = record {
      accepted = λ s e. run.accepted i s e;
      refused = λ r p e. run.refused i r p e;
      prefix = λ o v output has_verdict. run.prefix i o v output has_verdict;
      limit = λ e. run.limit i e;
    } in
    subst (λ (to : To). Transcoded c.args.task.profile c.args.catalog.now c.args.limits to bytes observable before after c.run_with.result.0) c.to_for-to.ensures asked
