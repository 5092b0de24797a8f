use Rattle.std.proofs.Common.{rules}
use Rattle.ion_value.specs.Outcome.{Accepted, Rejected}
use Rattle.ion_transcode.specs.Verdict.{HasVerdict}
use Rattle.ion_transcode.specs.declared.to.To.TheVariants as to
use Rattle.ion_uses.proofs.text_of.Goals as goal

-- the text is what the run wrote; the type of `has` refuses a run to another target before anything is searched for
pub returns-in-Ok-clause-text : goal.returns-in-Ok-clause-text
returns-in-Ok-clause-text c =
    let said = (c.run-answer.ensures.accepted (search rules) c.in-Ok.field-0 c.in-Ok.is).1 in
    let has : HasVerdict c.new-catalog.result c.args.limits to.Text c.new-input.result.inner.now (Accepted c.in-Ok.field-0.values) said.output = said.has_verdict in
    (c.in-Ok.field-0.values, (search rules))

-- a refusal of the run is that of the caller
pub returns-in-Err-clause-refused : goal.returns-in-Err-clause-refused
returns-in-Err-clause-refused c = λ r p e.
    let said = c.run-answer.ensures.refused (search rules) r p (search rules) in
    let has : HasVerdict c.new-catalog.result c.args.limits to.Text c.new-input.result.inner.now (Rejected r p) said.output = said.has_verdict in
    (said.output, (search rules))
