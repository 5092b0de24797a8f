use Rattle.std.proofs.Common.{subst}
use Rattle.ion_meter.specs.declared.profile.Profile.{Profile}
use Rattle.ion_value.specs.Outcome.{Accepted}
use Rattle.ion_transcode.specs.Verdict.{IsWrittenWith}
use Rattle.ion_transcode.proofs.run.run.Goals as goal

pub returns-clause-accepted : goal.returns-clause-accepted
returns-clause-accepted g c i s e =
    let r = c.run_with.ensures.accepted i s e in (
      r.0,
      subst
          (λ (p : Profile). IsWrittenWith p c.args.catalog.now c.args.limits c.args.to (g.I.Input.rest c.args.input) (Accepted s.values)
          (g.O.Output.observable c.args.output) (g.O.Output.written c.args.output) (g.O.Output.written c.run_with.result.2))
          c.strict.ensures r.1,
    )
