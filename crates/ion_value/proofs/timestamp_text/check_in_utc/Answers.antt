use Rattle.std.proofs.Common.{sym, ap, ◌∙◌, arith}
use Rattle.ion_value.specs.Timestamp.{IsMoment}
use Rattle.ion_value.specs.TimestampRuns.{outcome}
use Rattle.ion_value.proofs.TimestampText.{date_in_range-ok}
use Rattle.ion_value.proofs.YearsBeside.{time_in_range-inner}
use Rattle.std.proofs.lemmas.Grind.{common_steps}
use Rattle.ion_value.proofs.timestamp_text.check_in_utc.Goals as goal
use Rattle.ion_value.proofs.timestamp_text.check_in_utc.Goals.{In-Ok}

-- what is checked is a moment
checked : (c : In-Ok) → IsMoment c.args.timestamp.now
checked c =
    let t = c.args.timestamp.now in
    (date_in_range-ok t t (ap (λ r. outcome r t) (sym c.in-Ok.is) ∙ c.check.ensures)).1

pub to_utc-requires-clause-moment : goal.to_utc-requires-clause-moment
to_utc-requires-clause-moment c = checked (goal.at.to_utc-requires-clause-moment c).In-Ok

pub returns-in-Ok : goal.returns-in-Ok
returns-in-Ok c = sym (time_in_range-inner c.args.timestamp.now (checked (goal.at.returns-in-Ok c).In-Ok) (omega arith) (omega arith))

pub returns-in-Ok-to_utc : goal.returns-in-Ok-to_utc
returns-in-Ok-to_utc c = grind (arith, common_steps)

pub returns-in-Err : goal.returns-in-Err
returns-in-Err c = grind (arith, common_steps)

pub returns-in-Err-to_utc : goal.returns-in-Err-to_utc
returns-in-Err-to_utc c = grind (arith, common_steps)
