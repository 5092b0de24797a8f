use Rattle.std.proofs.Common.{◌+◌, ◌*◌, ◌∙◌, arith}
use Rattle.std.proofs.lemmas.Int.{ints}
use Rattle.ion_value.proofs.TimestampText.{offset_of-bound, at_offset-is}
use Rattle.std.proofs.lemmas.Grind.{common_steps}
use Rattle.ion_value.proofs.timestamp_text.take_offset.Goals as goal

pub check_in_utc-requires : goal.check_in_utc-requires
check_in_utc-requires c =
    let n = 60 * c.args.offset.hours + c.args.offset.minutes in
    rw (c.signed_minutes-timestamp.ensures n (omega (arith, ints))) (offset_of-bound c.args.offset.negative n (omega arith))

pub returns : goal.returns
returns c = λ bytes told.
    let n = 60 * c.args.offset.hours + c.args.offset.minutes in
    c.check_in_utc.ensures
    ∙ at_offset-is c.args.timestamp.now c.signed_minutes-timestamp.result c.args.offset bytes told c.if-offset-gt23.false c.if-offset-gt59.false (c.signed_minutes-timestamp.ensures n (omega (arith, ints)))

pub returns-then-offset-gt23 : goal.returns-then-offset-gt23
returns-then-offset-gt23 c = grind (arith, common_steps)

pub signed_minutes-timestamp-requires : goal.signed_minutes-timestamp-requires
signed_minutes-timestamp-requires c = grind (arith, common_steps)
