use Rattle.std.proofs.Common.{◌++◌, ap, ◌∙◌, inl, inr}
use Rattle.ion_value.specs.Outcome.{Accepted}
use Rattle.ion_transcode.specs.PartCalls.{kept_by}
use Rattle.cozgelt_c.proofs.Kept.{verdict_is, takes_so, refused_so, stays_so}
use Rattle.cozgelt_c.proofs.parts.run_part_within.Goals as goal

-- what the run says that it wrote, after the buffer's size, is what was put
pub returns-clause-comes : goal.returns-clause-comes
returns-clause-comes c = λ t e.
    let limits = c.args.call.limits in
    let profile = c.args.call.task.profile in
    let to = c.args.call.task.to in
    let tables = c.args.tables.now in
    let kept = c.args.kept.now in
    let bytes = c.args.call.part.bytes.now in
    let old = c.args.output in
    let new = c.run_part.result.1 in
    let said = c.run_part.ensures in
    record {
      takes = λ last some is_kept. takes_so profile tables limits to kept bytes t.bytes t.values (kept_by t.stays kept t.more.now) old.most new.most old.put new.put
          c.requires.empty (said.taken last is_kept t e some);
      nothing = λ last none. let nothing = said.nothing last t e none in
          (nothing.0, stays_so t.stays kept t.more.now (said.stays t e (inr none)), ap (λ b. b.put) nothing.1 ∙ c.requires.empty);
      whole = λ last. let whole = said.whole last t e in (
        whole.0,
        stays_so t.stays kept t.more.now (said.stays t e (inl last)),
        verdict_is profile tables limits to (kept ++ bytes) (Accepted t.values) old.most new.most old.put new.put c.requires.empty whole.1,
      );
    }

pub returns-clause-refused : goal.returns-clause-refused
returns-clause-refused c = λ r p e. refused_so c.args.call.task.profile c.args.tables.now c.args.call.limits c.args.call.task.to c.args.kept.now c.args.call.part.bytes.now
    c.args.call.part.last r p c.args.output.most c.run_part.result.1.most c.args.output.put c.run_part.result.1.put c.requires.empty (c.run_part.ensures.refused r p e)
