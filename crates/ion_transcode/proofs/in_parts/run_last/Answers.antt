use Rattle.std.proofs.Common.{rules, ◌≡◌, ◌+◌, ◌-◌, ◌++◌, true, Ok, Err, length, ap, sym, subst, ◌∙◌}
use Rattle.ion_meter.specs.declared.fault.Fault.TheVariants.{Refused}
use Rattle.ion_value.specs.Outcome.{Accepted, Rejected}
use Rattle.ion_transcode.proofs.PartVerdicts.{refused-last}
use Rattle.ion_transcode.proofs.in_parts.run_last.Goals as goal

pub returns-in-Err-clause-refused : goal.returns-in-Err-clause-refused
returns-in-Err-clause-refused g c = λ r p e.
    let o = g.O.Output in
    let reads = c.args.reads in
    let kept = c.args.kept.now in
    let part = c.args.part.now in
    let observable = o.observable c.args.output in
    let before = o.written c.args.output in
    let after = o.written c.run_behind-outcome.result.1 in
    let refused : c.run_behind-outcome.result.0 ≡ Err (Refused r p) = search rules in
    let said = c.run_behind-outcome.ensures.refused r p refused in
    refused-last reads.profile c.args.catalog.now reads.limits c.args.to kept part observable before after c.stretches_of_parts.ensures.behind r p said.0 said.1 said.2
