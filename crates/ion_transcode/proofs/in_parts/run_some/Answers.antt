use Rattle.std.proofs.Common.{rules, ◌≡◌, ◌++◌, false, Ok, Err, length, take, drop, sym, ◌∙◌}
use Rattle.ion_value.specs.Items.{is_none_left}
use Rattle.ion_transcode.proofs.PartVerdicts.{form-of-first, refused-first, some-not-none, takes-first}
use Rattle.ion_transcode.proofs.in_parts.run_some.Goals as goal

pub take-requires-clause-form : goal.take-requires-clause-form
take-requires-clause-form g c =
    let cut = c.in-Ok.chosen.cut in
    let bytes = c.args.bytes.now in
    let some : is_none_left (take cut bytes) ≡ false = search rules in
    c.requires.form ∙ sym (form-of-first c.args.kept.now bytes cut some)

pub returns-clause-taken : goal.returns-clause-taken
returns-clause-taken g c = λ is_kept t e many.
    let o = g.O.Output in
    let reads = c.args.reads in
    let catalog = c.args.catalog.now in
    let kept = c.args.kept.now in
    let bytes = c.args.bytes.now in
    let chosen = c.in-Ok.chosen in
    let is = c.choose.ensures.chosen chosen c.in-Ok.is in
    takes-first reads.profile catalog reads.limits c.args.to kept bytes (o.observable c.args.output) (o.written c.args.output) (o.written c.take.result.1) reads.form chosen.stretch chosen.cut is
    t.bytes t.values _ (c.take.ensures.bytes t e) (c.take.ensures.taken (drop chosen.cut bytes) is.is is_kept t e)

pub returns-clause-nothing : goal.returns-clause-nothing
returns-clause-nothing g c = λ t e none.
    let part = take c.in-Ok.chosen.cut c.args.bytes.now in
    let some : is_none_left part ≡ false = search rules in
    some-not-none part t.bytes some (c.take.ensures.bytes t e) none

pub returns-clause-refused : goal.returns-clause-refused
returns-clause-refused g c = λ r p e.
    let o = g.O.Output in
    let reads = c.args.reads in
    let catalog = c.args.catalog.now in
    let kept = c.args.kept.now in
    let bytes = c.args.bytes.now in
    let chosen = c.in-Ok.chosen in
    let is = c.choose.ensures.chosen chosen c.in-Ok.is in
    refused-first reads.profile catalog reads.limits c.args.to kept bytes (o.observable c.args.output) (o.written c.args.output) (o.written c.take.result.1) reads.form chosen.stretch chosen.cut is
    r p (c.take.ensures.refused (drop chosen.cut bytes) is.is r p e)
