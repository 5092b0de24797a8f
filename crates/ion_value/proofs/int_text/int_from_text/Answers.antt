use Rattle.std.proofs.Common.{arith, sym, ◌∙◌}
use Rattle.ion_value.specs.DigitReading.{read_int}
use Rattle.ion_value.proofs.TextDigits.{int-text, int-whole, int-more, int-none}
use Rattle.std.proofs.lemmas.Grind.{common_steps}
use Rattle.ion_value.proofs.int_text.int_from_text.Goals as goal

pub returns-in_default-clause-read : goal.returns-in_default-clause-read
returns-in_default-clause-read c =
    let sign = c.sign-negative in
    let text = int-text c.args.run.now sign.result.1.now sign.result.0 sign.ensures.negative sign.ensures.bytes in
    int-none sign.result.0 (read_int sign.result.1.now) c.in_default.ensures ∙ sym text

pub returns-then-not-is_empty-clause-read : goal.returns-then-not-is_empty-clause-read
returns-then-not-is_empty-clause-read c =
    let sign = c.sign-negative in
    let text = int-text c.args.run.now sign.result.1.now sign.result.0 sign.ensures.negative sign.ensures.bytes in
    let told = c.in-Some.ensures in
    let read = c.in-Some.digits in
    int-more sign.result.0 (read_int sign.result.1.now) told.0 read.count read.rest.now told.1 c.if-not-is_empty.ensures ∙ sym text

pub returns-clause-read : goal.returns-clause-read
returns-clause-read c =
    let sign = c.sign-negative in
    let text = int-text c.args.run.now sign.result.1.now sign.result.0 sign.ensures.negative sign.ensures.bytes in
    let told = c.in-Some.ensures in
    let read = c.in-Some.digits in
    c.int_in_128.ensures told.0 told.2
    ∙ sym (text ∙ int-whole sign.result.0 (read_int sign.result.1.now) told.0 read.count read.rest.now told.1 c.if-not-is_empty.ensures)

pub returns-clause-refused : goal.returns-clause-refused
returns-clause-refused c = grind (arith, common_steps)
