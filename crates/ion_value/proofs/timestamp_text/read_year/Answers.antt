use Rattle.std.proofs.Common.{sym, ◌∙◌}
use Rattle.ion_value.proofs.TimestampOctets.{from_place}
use Rattle.ion_value.proofs.TextStages.{year-read, year-bad}
use Rattle.ion_value.proofs.timestamp_text.read_year.Goals as goal

pub returns-in-Some : goal.returns-in-Some
returns-in-Some c =
    let run = c.args.run.now in
    rw (from_place run 4) at c.read_month.ensures
    ∙ year-read c.args.timestamp.now run c.in-Some.year c.in-len4-up.len_at_least (sym c.in-Some.is ∙ c.four_digits.ensures)

pub returns-in-None : goal.returns-in-None
returns-in-None c = year-bad c.args.timestamp.now c.args.run.now c.in-len4-up.len_at_least (sym c.in-None.is ∙ c.four_digits.ensures)
