use Rattle.std.proofs.Common.{ap, sym, ◌∙◌}
use Rattle.ion_value.specs.TimestampRuns.{outcome}
use Rattle.ion_value.proofs.TextReadings.{text-valid}
use Rattle.ion_value.proofs.timestamp_text.timestamp_from_text.Goals as goal

pub returns-in-Err-clause-refused : goal.returns-in-Err-clause-refused
returns-in-Err-clause-refused c = (text-valid c.args.run.now _ (ap (λ r. outcome r c.read_run.new.timestamp) (sym c.in-Err.is) ∙ c.read_run.ensures)).1

pub returns-clause-valid : goal.returns-clause-valid
returns-clause-valid c = (text-valid c.args.run.now _ (ap (λ r. outcome r c.read_run.new.timestamp) (sym c.in_default.is) ∙ c.read_run.ensures)).0
