use Rattle.std.proofs.Common.{Ok, arith, ap, sym, ◌∙◌}
use Rattle.std.proofs.lemmas.Int.{ints}
use Rattle.ion_value.specs.Timestamp.{in_years}
use Rattle.ion_value.proofs.Days.{moved-same, moved-after, moved-before, in_years-in}
use Rattle.std.proofs.lemmas.Grind.{common_steps}
use Rattle.ion_value.proofs.timestamp.Timestamp.moved_by.Goals as goal

pub returns-then-sum-lt0 : goal.returns-then-sum-lt0
returns-then-sum-lt0 c =
    c.on_the_day_before.ensures
    ∙ ap in_years (sym (moved-before c.args.self c.args.minutes _ c.requires.moment (omega (arith, ints)) (omega (arith, ints))))

pub returns-then-sum-lt1440 : goal.returns-then-sum-lt1440
returns-then-sum-lt1440 c =
    let moment = c.requires.moment in
    ap Ok c.at.ensures
    ∙ sym (in_years-in _ moment.year.0 moment.year.1)
    ∙ ap in_years (sym (moved-same c.args.self c.args.minutes _ moment (omega (arith, ints)) (omega (arith, ints))))

pub returns-else-sum-lt1440 : goal.returns-else-sum-lt1440
returns-else-sum-lt1440 c =
    c.on_the_next_day.ensures
    ∙ ap in_years (sym (moved-after c.args.self c.args.minutes _ c.requires.moment (omega (arith, ints))))

pub overflow_cast-sum-else-sum-lt1440 : goal.overflow_cast-sum-else-sum-lt1440
overflow_cast-sum-else-sum-lt1440 c = grind (arith, common_steps)

pub overflow_cast-sum-then-sum-lt0 : goal.overflow_cast-sum-then-sum-lt0
overflow_cast-sum-then-sum-lt0 c = grind (arith, common_steps)

pub on_the_next_day-requires-clause-minute : goal.on_the_next_day-requires-clause-minute
on_the_next_day-requires-clause-minute c = grind (arith, common_steps)

pub on_the_day_before-requires-clause-minute : goal.on_the_day_before-requires-clause-minute
on_the_day_before-requires-clause-minute c = grind (arith, common_steps)

pub at-requires : goal.at-requires
at-requires c = grind (arith, common_steps)

pub overflow_cast-sum-then-sum-lt1440 : goal.overflow_cast-sum-then-sum-lt1440
overflow_cast-sum-then-sum-lt1440 c = grind (arith, common_steps)

pub overflow_sub-sum : goal.overflow_sub-sum
overflow_sub-sum c = grind (arith, common_steps)

pub overflow_add-sum-then-sum-lt0 : goal.overflow_add-sum-then-sum-lt0
overflow_add-sum-then-sum-lt0 c = grind (arith, common_steps)

pub overflow_add-sum-2 : goal.overflow_add-sum-2
overflow_add-sum-2 c = grind (arith, common_steps)
