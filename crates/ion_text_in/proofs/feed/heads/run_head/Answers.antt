use Rattle.std.proofs.Common.{◌≡◌, ◌∙◌, sym, ap, subst, refl, Option, Some, arith}
use Rattle.ion_value.specs.Value.{Head, SymbolAt}
use Rattle.ion_text_in.specs.Feeding.{IsHead}
use Rattle.ion_value.specs.declared.float.Float64.{Float64}
use Rattle.ion_text_in.specs.declared.number.Numeral.{Numeral}
use Rattle.ion_text_in.specs.declared.number.Numeral.TheVariants as numerals
use Rattle.ion_text_in.specs.declared.scanned.Scanned.TheVariants.{Whole}
use Rattle.ion_text_in.specs.Scanners.{Shows}
use Rattle.ion_text_in.specs.Token.{a_run, token_of}
use Rattle.ion_text_in.specs.Views.{NumeralInRange, number_token, numeral_token}
use Rattle.ion_text_in.proofs.FeedReading.{found-as, head-float, head-number}
use Rattle.ion_text_in.proofs.ShownFurther.{shown-some}
use Rattle.ion_text_in.proofs.feed.heads.run_head.Goals as goal

pub returns-in-Whole-Number-default : goal.returns-in-Whole-Number-default
returns-in-Whole-Number-default c =
    let a = c.args in
    let w = c.in-Whole-Number-default in
    let shows = subst (λ (x : Numeral). Shows numeral_token a.bytes.now (Whole x w.count) (token_of (Some a.limits.scalar) a_run)) w.field-0-is w.ensures.shows in
    let range = subst (λ (x : Numeral). NumeralInRange x) w.field-0-is w.ensures.range in
    let counts = shown-some number_token a.bytes.now w.number w.count (Some a.limits.scalar) a_run shows c.requires.some in
    found-as c.found_as-in-Whole-Number-default.ensures refl
    (subst (λ (h : Head SymbolAt). IsHead a.limits a.place a.bytes.now h c.after-in-Whole-Number-default.result.now) (sym c.head_of.ensures)
    (head-number w.number c.after-in-Whole-Number-default.ensures (omega (arith, counts)) shows range c.requires))

pub returns-in-Whole-Float-Some-default : goal.returns-in-Whole-Float-Some-default
returns-in-Whole-Float-Some-default c =
    let a = c.args in
    let w = c.in-Whole-Float-Some-default in
    let is : w.field-0 ≡ numerals.Float (Some w.float) = w.field-0-is ∙ ap (λ (x : Option Float64). numerals.Float x) w.field-0-0-is in
    let shows = subst (λ (x : Numeral). Shows numeral_token a.bytes.now (Whole x w.count) (token_of (Some a.limits.scalar) a_run)) is w.ensures.shows in
    let range = subst (λ (x : Numeral). NumeralInRange x) is w.ensures.range in
    found-as c.found_as-in-Whole-Float-Some-default.ensures refl (head-float w.float c.if-limits-2.true c.after-in-Whole-Float-Some-default.ensures shows range c.requires)

pub returns-in-Some : goal.returns-in-Some
returns-in-Some c =
    let e = c.in-Some.ensures in
    found-as c.found_as.ensures refl (head-float c.in-Some.float c.if-limits.true c.after.ensures e.shows e.range c.requires)
