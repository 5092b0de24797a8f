use Rattle.std.proofs.Common.{drop, ap, ◌∙◌}
use Rattle.ion_value.specs.declared.timestamp.Timestamp.{Timestamp}
use Rattle.ion_value.specs.TimestampRuns.{after_minute}
use Rattle.ion_value.proofs.TimestampOctets.{from_place}
use Rattle.ion_value.proofs.TextStages.{to_the_minute-is}
use Rattle.ion_value.proofs.timestamp_text.read_time.Goals as goal

pub returns : goal.returns
returns c =
    let run = c.args.run.now in
    let read = rw (from_place run 16) at c.read_second.ensures in
    let told = to_the_minute-is c.args.timestamp.now run c.of_digits.result c.of_digits-2.result c.of_digits-timestamp.result c.of_digits-timestamp-2.result c.of_digits-timestamp-3.result c.of_digits-timestamp-4.result c.requires.minute
    c.of_digits.ensures c.of_digits-2.ensures c.of_digits-timestamp.ensures c.of_digits-timestamp-2.ensures c.of_digits-timestamp-3.ensures c.of_digits-timestamp-4.ensures in
    read ∙ ap (λ (t : Timestamp). after_minute t (drop 16 run)) told
