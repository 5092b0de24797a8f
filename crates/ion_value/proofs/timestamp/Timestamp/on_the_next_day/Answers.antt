use Rattle.std.proofs.Common.{◌≡◌, ◌+ℤ◌, pos, arith, sym}
use Rattle.std.proofs.lemmas.Int.{ints}
use Rattle.jiff.specs.Words.{epoch_day, IsYmd}
use Rattle.jiff_core.specs.declared.civil.date.Date.{Date}
use Rattle.ion_value.specs.declared.timestamp.Timestamp.{Timestamp}
use Rattle.ion_value.specs.Timestamp.{IsMoment, next_day, at_minute}
use Rattle.ion_value.proofs.Days.{IsDayOf, day_of, tomorrow-is, no_tomorrow, next_day-at, in_years-late}
use Rattle.ion_value.proofs.timestamp.Timestamp.on_the_next_day.Goals as goal

tomorrow : (t : Timestamp) (d e : Date) → IsMoment t → IsYmd (pos t.year) (pos t.month) (pos t.day) d → epoch_day e ≡ epoch_day d +ℤ pos 1 → IsDayOf (next_day t) e
tomorrow t d e m is after = tomorrow-is t d e (day_of t m d is) after

pub on-requires : goal.on-requires
on-requires c =
    let day = tomorrow c.args.self c.date.result c.in-Ok.date c.requires.moment c.date.ensures c.in-Ok.ensures.value in
    let year = day.moment.year in
    omega (arith, ints, day.year)

pub returns-in-Ok : goal.returns-in-Ok
returns-in-Ok c =
    let day = tomorrow c.args.self c.date.result c.in-Ok.date c.requires.moment c.date.ensures c.in-Ok.ensures.value in
    next_day-at c.args.self c.on.result c.at.result c.in-Ok.date c.args.minute day c.on.ensures.same c.on.ensures.date c.at.ensures

pub returns-in-Err : goal.returns-in-Err
returns-in-Err c =
    let here = day_of c.args.self c.requires.moment c.date.result c.date.ensures in
    let last = no_tomorrow c.args.self c.date.result here (λ less. cc (c.in-Err.ensures.succeeds.1 less)) in
    sym (in_years-late (at_minute (next_day c.args.self) c.args.minute) last)
