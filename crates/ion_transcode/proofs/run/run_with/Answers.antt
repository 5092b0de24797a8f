use Rattle.std.proofs.Common.{◌≡◌, ◌++◌, List, ℕ, subst, arith}
use Rattle.std.proofs.lemmas.Grind.{common_steps}
use Rattle.std.specs.Prelude.{OnOk}
use Rattle.ion_meter.specs.Windows.{HasPrefix}
use Rattle.ion_value.specs.Outcome.{Verdict}
use Rattle.ion_transcode.specs.Verdict.{HasVerdictWith}
use Rattle.ion_transcode.specs.ByItem.{output_for}
use Rattle.ion_transcode.proofs.run.run_with.Goals as goal

pub returns-clause-accepted : goal.returns-clause-accepted
returns-clause-accepted g c i s e =
    let bytes = g.I.Input.rest c.args.input in
    let says = c.transcode.ensures.says i in
    let out = output_for c.args.profile c.args.catalog.now c.args.limits c.args.to bytes in
    let has_verdict = subst (λ (v : Verdict). HasVerdictWith c.args.profile c.args.catalog.now c.args.limits c.args.to bytes v out) (says.accepted s e) (c.streams_are_read.ensures c.args.profile c.args.catalog.now c.args.limits c.args.to bytes) in (
      says.form s e,
      record {
        output = out;
        has_verdict = has_verdict;
        written = λ o. subst (λ r. OnOk r (g.O.Output.written c.transcode.result.2 ≡ g.O.Output.written c.args.output ++ out)) e (c.transcode.ensures.writes i o).accepted;
      },
    )

pub returns-clause-refused : goal.returns-clause-refused
returns-clause-refused g c i r p e =
    let bytes = g.I.Input.rest c.args.input in
    let out = output_for c.args.profile c.args.catalog.now c.args.limits c.args.to bytes in
    record {
      output = out;
      has_verdict = subst (λ (v : Verdict). HasVerdictWith c.args.profile c.args.catalog.now c.args.limits c.args.to bytes v out) ((c.transcode.ensures.says i).rejected r p e) (c.streams_are_read.ensures c.args.profile c.args.catalog.now c.args.limits c.args.to bytes);
      written = λ o. (c.transcode.ensures.writes i o).rejected r p e;
    }

pub returns-clause-prefix : goal.returns-clause-prefix
returns-clause-prefix g c i o v out has_verdict =
    let bytes = g.I.Input.rest c.args.input in
    let same = (c.one_verdict.ensures c.args.profile c.args.catalog.now c.args.limits c.args.to bytes _ v _ out (c.streams_are_read.ensures c.args.profile c.args.catalog.now c.args.limits c.args.to bytes) has_verdict).1 in
    subst (λ (l : List ℕ). HasPrefix (g.O.Output.written c.args.output ++ l) (g.O.Output.written c.transcode.result.2)) same (c.transcode.ensures.writes i o).prefix

pub returns-clause-peak_of_binary : goal.returns-clause-peak_of_binary
returns-clause-peak_of_binary g c = grind (arith, common_steps)

pub returns-clause-peak_of_form : goal.returns-clause-peak_of_form
returns-clause-peak_of_form g c = grind (arith, common_steps)

pub returns-clause-memory : goal.returns-clause-memory
returns-clause-memory g c = grind (arith, common_steps)

pub returns-clause-limit : goal.returns-clause-limit
returns-clause-limit g c = grind (arith, common_steps)
