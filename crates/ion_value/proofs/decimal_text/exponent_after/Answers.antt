use Rattle.std.proofs.Common.{◌≡◌, ◌⊎◌, pos, ◌-ℤ◌, length, get_or, arith}
use Rattle.std.proofs.lemmas.Grind.{common_steps}
use Rattle.ion_value.specs.Number.{signed}
use Rattle.ion_value.proofs.TextDigits.{tail-all}
use Rattle.ion_value.proofs.TextDecimals.{after-power}
use Rattle.ion_value.proofs.decimal_text.exponent_after.Goals as goal

pub returns-in-100 : goal.returns-in-100
returns-in-100 c =
    let told = c.in-Some.ensures in
    let mantissa = c.args.mantissa in
    let power = mantissa.power.now in
    let mark : (get_or power 0 0 ≡ 100) ⊎ (get_or power 0 0 ≡ 68) = grind arith in
    let e = signed c.in-Some.exponent.below told.1.0 in (
      e -ℤ pos mantissa.places,
      c.less_places.ensures told.1.0 told.1.1,
      λ negative n. after-power negative n mantissa.places mantissa.pointed e power _ (omega arith) (tail-all power (length power) (omega arith)) mark told.0 told.1.2,
    )

pub returns-in-101 : goal.returns-in-101
returns-in-101 c = grind (arith, common_steps) steps 1500000

pub returns-in_default : goal.returns-in_default
returns-in_default c = grind (arith, common_steps)

pub returns-in_default-read_exponent : goal.returns-in_default-read_exponent
returns-in_default-read_exponent c = grind (arith, common_steps)
