use Rattle.std.proofs.Common.{rules, ◌≡◌, ◌≢◌, ◌+◌, Err, ap, arith}
use Rattle.std.proofs.lemmas.Grind.{common_steps}
use Rattle.ion_meter.specs.declared.fault.Fault.TheVariants.{Memory, ReadFault}
use Rattle.ion_value.specs.Reading.{items_of}
use Rattle.ion_symbols.specs.Users.{at_start, users}
use Rattle.ion_symbols.specs.Building.{HasRead, loading_of}
use Rattle.ion_transcode.proofs.LoadParts.{loads-by, same-fault, verdict-by}
use Rattle.ion_transcode.proofs.load.build.Goals as goal

pub returns-in-Ok-clause-says : goal.returns-in-Ok-clause-says
returns-in-Ok-clause-says g c r =
    let limits = c.args.limits in
    let raw = g.R.RawReader.reading c.args.raw in
    let copied = c.copy_stream-outcome.ensures in
    let has : HasRead c.copy_stream-outcome.new.writer (items_of (users c.new-empty.result limits.symbols at_start raw)) = search rules in
    record {
      loads = λ tables e.
          loads-by limits _ _ raw c.new-empty.result c.in-Ok.field-0 (loading_of c.copy_stream-outcome.new.writer) tables c.new-builder.ensures.fresh.limits_are
          copied.writer.limits c.new-empty.ensures ((copied.says r).accepted c.in-Ok.field-0 c.in-Ok.is) has.read (search rules);
      rejected = λ reason place e. cc;
    }

pub returns-in-Ok-clause-causes : goal.returns-in-Ok-clause-causes
returns-in-Ok-clause-causes g c = record {
  memory = λ e. cc;
  counted = λ e. search rules;
  read = λ e. cc;
  reads_steady = λ e. search rules;
  no_writes = λ e. cc;
  limit = λ e. cc;
}

pub returns-in-Err-clause-says : goal.returns-in-Err-clause-says
returns-in-Err-clause-says g c r =
    let limits = c.args.limits in
    let raw = g.R.RawReader.reading c.args.raw in
    let copied = c.copy_stream-outcome.ensures in
    record {
      loads = λ tables e. cc;
      rejected = λ reason place e.
          verdict-by limits _ raw c.new-empty.result _ c.new-builder.ensures.fresh.limits_are c.new-empty.ensures ((copied.says r).rejected reason place (search rules));
    }

pub returns-in-Err-clause-causes : goal.returns-in-Err-clause-causes
returns-in-Err-clause-causes g c =
    let causes = c.copy_stream-outcome.ensures.causes in
    let same = same-fault c.copy_stream-outcome.result.0 c.in-Err.fault in
    record {
      memory = λ e. search rules;
      counted = λ e.
          let other : c.copy_stream-outcome.result.0 ≢ Err Memory = λ k. e (ap (λ f. Err f) (same Memory c.in-Err.is k)) in
          let steady = causes.counted other in
          search rules;
      read = λ e. search rules;
      reads_steady = λ e.
          let other : c.copy_stream-outcome.result.0 ≢ Err ReadFault = λ k. e (ap (λ f. Err f) (same ReadFault c.in-Err.is k)) in
          causes.reads_steady other;
      no_writes = λ e.
          let one : 0 ≡ 0 + 1 = causes.write (search rules) in
          omega (arith, one);
      limit = λ e. search rules;
    }

pub returns-in-Err-clause-charges : goal.returns-in-Err-clause-charges
returns-in-Err-clause-charges g c = grind (arith, common_steps) steps 400000

pub returns-in-Ok-clause-charges : goal.returns-in-Ok-clause-charges
returns-in-Ok-clause-charges g c = grind (arith, common_steps)

pub returns-in-Ok-clause-cheap : goal.returns-in-Ok-clause-cheap
returns-in-Ok-clause-cheap g c = grind (arith, common_steps)

pub release-requires-in-Err : goal.release-requires-in-Err
release-requires-in-Err g c = grind (arith, common_steps)

pub into_catalog-requires : goal.into_catalog-requires
into_catalog-requires g c = grind (arith, common_steps)

pub release-requires : goal.release-requires
release-requires g c = grind (arith, common_steps)

pub returns-in-Ok-clause-bytes : goal.returns-in-Ok-clause-bytes
returns-in-Ok-clause-bytes g c = grind (arith, common_steps)

pub copy_stream-outcome-requires-clause-writer : goal.copy_stream-outcome-requires-clause-writer
copy_stream-outcome-requires-clause-writer g c = grind (arith, common_steps)
