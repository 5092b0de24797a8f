use Rattle.std.proofs.Common.{refl}
use Rattle.ion_value.proofs.TextDecimals.{exponent-read, exponent-none, exponent-more}
use Rattle.ion_value.proofs.decimal_text.read_exponent.Goals as goal

pub returns-in_default : goal.returns-in_default
returns-in_default c = exponent-none c.args.bytes.now c.exponent_sign-below.result.1.now c.exponent_sign-below.ensures.digits (c.in_default.ensures 0 refl)

pub returns-then-read-digits : goal.returns-then-read-digits
returns-then-read-digits c =
    let sign = c.exponent_sign-below in
    let told = c.in-Some.ensures 0 refl in
    exponent-more c.args.bytes.now sign.result.1.now told.0 c.in-Some.read.count c.in-Some.read.rest.now sign.ensures.digits told.1 c.if-read-digits.true

pub returns : goal.returns
returns c =
    let sign = c.exponent_sign-below in
    let told = c.in-Some.ensures 0 refl in
    let read = exponent-read c.args.bytes.now sign.result.1.now sign.result.0 told.0 c.in-Some.read.count c.in-Some.read.rest.now sign.ensures.digits sign.ensures.below told.1 c.if-read-digits.false in (
      read.0,
      (told.0, told.2, read.1),
    )
