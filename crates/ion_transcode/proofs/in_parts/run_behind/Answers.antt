use Rattle.std.proofs.Common.{rules, ◌≡◌, ◌≢◌, ◌+◌, ◌<◌, ◌++◌, Err, length, ap, sym, subst, ◌∙◌, arith}
use Rattle.ion_meter.specs.declared.fault.Fault.TheVariants.{ReadFault}
use Rattle.ion_transcode.proofs.PartMemory.{passed-limit, passed-runs}
use Rattle.ion_transcode.proofs.in_parts.run_behind.Goals as goal

pub returns-in-Err-clause-runs : goal.returns-in-Err-clause-runs
returns-in-Err-clause-runs g c =
    let run = c.run_with-outcome.ensures in
    let no_reads : c.run_with-outcome.result.0 ≢ Err ReadFault = λ e. (let one : 0 ≡ 0 + 1 = run.read e in omega (arith, one)) in
    passed-runs c.run_with-outcome.result.0 c.in-Err.fault c.behind.result c.in-Err.is c.behind.ensures.from c.behind.ensures.same
    run.memory run.counted run.held run.peak no_reads run.write run.steady run.still_observable run.grown

pub returns-in-Err-clause-limit : goal.returns-in-Err-clause-limit
returns-in-Err-clause-limit g c = λ e.
    let run = c.run_with-outcome.ensures in
    subst (λ bytes. c.args.reads.limits.input < length bytes) c.new-input.ensures
    (run.limit tt (passed-limit c.run_with-outcome.result.0 c.in-Err.fault c.behind.result c.in-Err.is c.behind.ensures.from c.behind.ensures.same e))
