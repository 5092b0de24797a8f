use Rattle.std.proofs.Common.{rules, ◌∷◌, subst}
use Rattle.ion_value.specs.Outcome.{Accepted, Rejected}
use Rattle.ion_transcode.specs.Verdict.{IsWrittenWith}
use Rattle.cozgelt_c.proofs.Kept.{verdict_is}
use Rattle.cozgelt_c.proofs.run_within.Goals as goal

-- what the run says that it wrote, after the buffer's size, is what was put
pub returns-clause-accepted : goal.returns-clause-accepted
returns-clause-accepted c = λ s e.
    let task = c.args.task in
    let old = c.args.output in
    let new = c.run_with-outcome.result.2 in
    let said = (c.run_with-outcome.ensures.accepted (search rules) s e).1 in
    verdict_is task.profile c.args.tables.now c.args.limits task.to c.args.stream.now (Accepted s.values) old.most new.most old.put new.put c.requires.empty
    (subst (λ i. IsWrittenWith task.profile c.args.tables.now c.args.limits task.to i.inner.now (Accepted s.values) (Unit {0}) (old.most ∷ old.put) (new.most ∷ new.put))
    c.new-reader.ensures said)

pub returns-clause-refused : goal.returns-clause-refused
returns-clause-refused c = λ r p e.
    let task = c.args.task in
    let old = c.args.output in
    let new = c.run_with-outcome.result.2 in
    let said = c.run_with-outcome.ensures.refused (search rules) r p e in
    verdict_is task.profile c.args.tables.now c.args.limits task.to c.args.stream.now (Rejected r p) old.most new.most old.put new.put c.requires.empty
    (subst (λ i. IsWrittenWith task.profile c.args.tables.now c.args.limits task.to i.inner.now (Rejected r p) (Unit {0}) (old.most ∷ old.put) (new.most ∷ new.put))
    c.new-reader.ensures said)
