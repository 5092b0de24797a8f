use Rattle.std.proofs.Common.{rules, ◌≡◌, ◌+◌, ◌-◌, ◌++◌, true, false, length, Ok, Err, ap, sym, subst, ◌∙◌}
use Rattle.ion_meter.specs.declared.fault.Fault.TheVariants.{Refused}
use Rattle.ion_value.specs.Outcome.{Accepted, Rejected}
use Rattle.ion_transcode.specs.declared.in_parts.Taken as code
use Rattle.ion_transcode.specs.PartCalls.{IsShort, TakesAll, kept_by}
use Rattle.ion_transcode.specs.Verdict.{IsWrittenWith}
use Rattle.ion_transcode.proofs.PartVerdicts.{refused-early, short-as, taken-all}
use Rattle.ion_transcode.proofs.in_parts.take.Goals as goal

pub returns-in-Ok-clause-taken : goal.returns-in-Ok-clause-taken
returns-in-Ok-clause-taken g c = λ next stretch is_kept t e.
    let o = g.O.Output in
    let reads = c.args.reads in
    let kept = c.args.kept.now in
    let part = c.args.part.now in
    let observable = o.observable c.args.output in
    let before = o.written c.args.output in
    let after = o.written c.run_behind-outcome.result.1 in
    let took = c.taken_of.result in
    let same : took ≡ t = cc e in
    let accepted = c.run_behind-outcome.ensures.accepted c.in-Ok.values c.in-Ok.is in
    let written = subst (λ n. IsWrittenWith reads.profile c.args.catalog.now reads.limits c.args.to (kept ++ part) (Accepted n) observable before after) (sym c.taken_of.ensures.values) accepted in
    subst (λ (t : code.Taken). TakesAll reads.profile c.args.catalog.now reads.limits c.args.to kept part next t.values (kept_by t.stays kept t.more.now) observable before after) same
    (taken-all reads.profile c.args.catalog.now reads.limits c.args.to kept part observable before after next reads.form c.args.stretch c.requires.form stretch c.requires.stretch c.requires.some
    c.stretches_of_parts.ensures.taken took.values (kept_by took.stays kept took.more.now) is_kept c.taken_of.ensures.keeps written)

pub returns-in-Err-clause-refused : goal.returns-in-Err-clause-refused
returns-in-Err-clause-refused g c = λ next stretch r p e.
    let o = g.O.Output in
    let reads = c.args.reads in
    let kept = c.args.kept.now in
    let part = c.args.part.now in
    let observable = o.observable c.args.output in
    let before = o.written c.args.output in
    let after = o.written c.run_behind-outcome.result.1 in
    let refused : c.run_behind-outcome.result.0 ≡ Err (Refused r p) = search rules in
    let said = c.run_behind-outcome.ensures.refused r p refused in
    refused-early reads.profile c.args.catalog.now reads.limits c.args.to kept part observable before after next reads.form c.args.stretch c.requires.form stretch c.requires.stretch c.requires.some
    c.stretches_of_parts.ensures.refused c.stretches_of_parts.ensures.behind r p said.0 said.1 said.2

pub returns-in-Ok-clause-short : goal.returns-in-Ok-clause-short
returns-in-Ok-clause-short g c = λ t e.
    let kept = c.args.kept.now in
    let part = c.args.part.now in
    let took = c.taken_of.result in
    let same : took ≡ t = cc e in
    subst (λ (t : code.Taken). IsShort t.stays kept t.more.now t.bytes) same
    (short-as c.args.reads.form c.args.stretch kept part took.stays took.more.now took.bytes c.taken_of.ensures.keeps c.taken_of.ensures.bytes)
