use Rattle.std.proofs.Common.{◌≡◌, false, sym, ap, drop, ◌∙◌, arith}
use Rattle.ion_value.specs.declared.timestamp.Timestamp.{Timestamp}
use Rattle.ion_value.specs.TimestampRuns.{begins_time, to_the_minute, after_minute, from_year}
use Rattle.ion_value.proofs.TextStages.{date-text, minute-short, minute-text}
use Rattle.ion_value.proofs.timestamp_text.read_run.Goals as goal
use Rattle.ion_value.proofs.timestamp_text.read_run.Goals.{else-run-ge16-via-then-run-ge16+else-is_minute, else-run-ge16-via-else-run-ge16}

pub returns-then-is_minute : goal.returns-then-is_minute
returns-then-is_minute c =
    let run = c.args.run.now in
    c.read_time.ensures
    ∙ ap (λ (t : Timestamp). after_minute (to_the_minute t run) (drop 16 run)) c.requires
    ∙ minute-text run (sym c.is_minute.ensures ∙ c.if-is_minute.true)

pub returns-else-run-ge16 : goal.returns-else-run-ge16
returns-else-run-ge16 c =
    let run = c.args.run.now in
    let other : begins_time run ≡ false = elim c.else-run-ge16.branch [
      | else-run-ge16-via-then-run-ge16+else-is_minute w ↦ sym w.is_minute.ensures ∙ w.if-is_minute.false
      | else-run-ge16-via-else-run-ge16 w ↦ minute-short run (omega arith)
    ] in
    c.read_year.ensures ∙ ap (λ (t : Timestamp). from_year t run) c.requires ∙ date-text run other
