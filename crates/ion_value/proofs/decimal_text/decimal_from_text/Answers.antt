use Rattle.std.proofs.Common.{◌∙◌, sym}
use Rattle.ion_value.proofs.TextDecimals.{decimal-text, range-refused, after-refused}
use Rattle.ion_value.proofs.decimal_text.decimal_from_text.Goals as goal

pub returns-in_default-clause-read : goal.returns-in_default-clause-read
returns-in_default-clause-read c =
    let sign = c.sign-negative in
    sym (c.in_default.ensures sign.result.0) ∙ decimal-text c.args.run.now sign.result.1.now sign.result.0 sign.ensures.negative sign.ensures.bytes

pub returns-in-Ok-clause-read : goal.returns-in-Ok-clause-read
returns-in-Ok-clause-read c =
    let sign = c.sign-negative in
    let mantissa = c.in-Some.ensures in
    let exponent = c.in-Ok.ensures in
    c.in_range.ensures mantissa.0 exponent.0 mantissa.1 exponent.1 ∙ sym (mantissa.2 sign.result.0 ∙ exponent.2 sign.result.0 mantissa.0)
    ∙ decimal-text c.args.run.now sign.result.1.now sign.result.0 sign.ensures.negative sign.ensures.bytes

pub returns-in-Ok-clause-refused : goal.returns-in-Ok-clause-refused
returns-in-Ok-clause-refused c =
    let mantissa = c.in-Some.ensures in
    let exponent = c.in-Ok.ensures in
    rw (c.in_range.ensures mantissa.0 exponent.0 mantissa.1 exponent.1) (range-refused c.sign-negative.result.0 mantissa.0 exponent.0)

pub returns-in-Err-clause-read : goal.returns-in-Err-clause-read
returns-in-Err-clause-read c =
    let sign = c.sign-negative in
    let mantissa = c.in-Some.ensures in
    sym (mantissa.2 sign.result.0 ∙ c.in-Err.ensures sign.result.0 mantissa.0)
    ∙ decimal-text c.args.run.now sign.result.1.now sign.result.0 sign.ensures.negative sign.ensures.bytes

pub returns-in-Err-clause-refused : goal.returns-in-Err-clause-refused
returns-in-Err-clause-refused c =
    let sign = c.sign-negative in
    let mantissa = c.in-Some.mantissa in
    rw (c.in-Err.ensures sign.result.0 0) at (after-refused sign.result.0 0 mantissa.places mantissa.pointed mantissa.power.now)
