use Rattle.std.proofs.Common.{rules, subst}
use Rattle.ion_value.specs.Outcome.{Accepted}
use Rattle.ion_transcode.specs.Verdict.{HasVerdict}
use Rattle.ion_transcode.specs.declared.to.To.TheVariants as to
use Rattle.ion_uses.proofs.count_with.Goals as goal

-- the number is that of the run, with the tables that were loaded
pub returns-in-Ok-answer : goal.returns-in-Ok-answer
returns-in-Ok-answer c =
    let loaded = c.load_catalog-loaded.ensures.loaded (search rules) in
    let said = (c.run-answer.ensures.accepted (search rules) c.in-Ok-answer.summary c.in-Ok-answer.is).1 in
    let has = said.has_verdict in record {
      count = (
        c.in-Ok.tables,
        (search rules),
        said.output,
        subst (λ i. HasVerdict c.in-Ok.tables c.args.limits to.Nothing i.inner.now (Accepted c.in-Ok-answer.summary.values) said.output) c.new-input.ensures has,
      );
    }
