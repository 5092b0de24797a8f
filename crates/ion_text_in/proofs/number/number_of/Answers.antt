use Rattle.std.proofs.Common.{◌≡◌, sym, arith}
use Rattle.std.proofs.lemmas.Grind.{common_steps}
use Rattle.ion_meter.specs.declared.fault.Reason.TheVariants as reason
use Rattle.ion_text_in.proofs.RunTokens.{first-scalar, first-bad, other-why}
use Rattle.ion_text_in.proofs.number.number_of.Goals as goal

pub returns-in-Ok-clause-gives : goal.returns-in-Ok-clause-gives
returns-in-Ok-clause-gives c = first-scalar c.args.run.now c.in-Ok.timestamp (sym c.in-Ok.ensures.read)

pub returns-in-Err : goal.returns-in-Err
returns-in-Err c = record {
  gives = first-bad c.args.run.now c.in-Err.reason (λ same. grind (arith, same, common_steps)) (sym c.in-Err.ensures.read);
  float = λ e. let same : c.in-Err.reason ≡ reason.Float = cc e in absurd (other-why c.in-Err.reason c.in-Err.ensures.refused same);
  range = tt;
}
