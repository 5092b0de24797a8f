use Rattle.std.proofs.Common.{◌≤ℤ◌, pos, arith, sym}
use Rattle.std.proofs.lemmas.Int.{ints}
use Rattle.ion_value.specs.Timestamp.{day_before, at_minute}
use Rattle.ion_value.proofs.Days.{day_of, yesterday-is, no_yesterday, some_yesterday, day_before-at, in_years-early}
use Rattle.ion_value.proofs.timestamp.Timestamp.on_the_day_before.Goals as goal

pub returns-in-Ok : goal.returns-in-Ok
returns-in-Ok c =
    let here = day_of c.args.self c.requires.moment c.date.result c.date.ensures in
    let from : pos 1 ≤ℤ c.in-Ok.date.year = omega (arith, ints) in
    let day = yesterday-is c.args.self c.date.result c.in-Ok.date here c.in-Ok.ensures.value from in
    day_before-at c.args.self c.on.result c.at.result c.in-Ok.date c.args.minute day c.on.ensures.same c.on.ensures.date c.at.ensures

pub returns-in_default : goal.returns-in_default
returns-in_default c =
    let here = day_of c.args.self c.requires.moment c.date.result c.date.ensures in
    let first = no_yesterday c.args.self c.date.result c.in-Ok.date here c.in-Ok.ensures.value (λ from. omega (arith, ints)) in
    sym (in_years-early (at_minute (day_before c.args.self) c.args.minute) first)

-- each moment has a day before it
pub returns-in_default-2 : goal.returns-in_default-2
returns-in_default-2 c =
    let here = day_of c.args.self c.requires.moment c.date.result c.date.ensures in
    let some = some_yesterday c.args.self c.date.result here in
    cc (c.in_default.ensures.succeeds.1 some)
