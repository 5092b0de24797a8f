use Rattle.std.proofs.Common.{◌≡◌, false, length, get_or, ◌∙◌, ap, sym, arith, rules}
use Rattle.ion_value.specs.Digits.{first_is}
use Rattle.ion_value.specs.Decimal.{is_point}
use Rattle.ion_value.specs.DigitReading.{read_fraction}
use Rattle.ion_value.proofs.TextDigits.{tail-all}
use Rattle.ion_value.proofs.TextDecimals.{mantissa-none, mantissa-plain, mantissa-pointed, mantissa-no_fraction, point-not, point-other, point-first}
use Rattle.ion_value.proofs.decimal_text.read_mantissa.Goals as goal

pub returns-in_default : goal.returns-in_default
returns-in_default c = mantissa-none c.args.bytes.now c.in_default.ensures

pub returns-in_default-rest : goal.returns-in_default-rest
returns-in_default-rest c =
    let told = c.in-Some.ensures in
    let whole = c.in-Some.whole in
    let plain : first_is is_point whole.rest.now ≡ false = search (rules, point-not, point-other) in (
      told.0,
      told.2,
      mantissa-plain c.args.bytes.now told.0 whole.count whole.rest.now told.1 plain,
    )

pub returns-in-Some-fraction : goal.returns-in-Some-fraction
returns-in-Some-fraction c =
    let told = c.in-Some.ensures in
    let whole = c.in-Some.whole in
    let rest = whole.rest.now in
    let first : get_or rest 0 0 ≡ 46 = omega arith in
    let read = c.in-Some-fraction.ensures told.0 told.2 in
    let fraction = c.in-Some-fraction.fraction in
    let after = ap (read_fraction told.0) (sym (tail-all rest (length rest) (omega arith))) in (
      read.0,
      read.2,
      mantissa-pointed c.args.bytes.now told.0 whole.count rest read.0 fraction.count fraction.rest.now told.1 (point-first rest c.in-46.len_at_least first) (after ∙ read.1),
    )

pub returns-in-None : goal.returns-in-None
returns-in-None c =
    let told = c.in-Some.ensures in
    let whole = c.in-Some.whole in
    let rest = whole.rest.now in
    let first : get_or rest 0 0 ≡ 46 = omega arith in
    let after = ap (read_fraction told.0) (sym (tail-all rest (length rest) (omega arith))) in
    mantissa-no_fraction c.args.bytes.now told.0 whole.count rest told.1 (point-first rest c.in-46.len_at_least first) (after ∙ c.in-None.ensures told.0 told.2)
