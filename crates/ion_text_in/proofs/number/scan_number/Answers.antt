use Rattle.std.proofs.lemmas.Grind.{common_steps}
use Rattle.std.proofs.Common.{arith, ◌∙◌, ap, Err}
use Rattle.std.specs.Prelude.{option_map}
use Rattle.ion_meter.specs.declared.fault.Reason.{Reason}
use Rattle.ion_value.specs.Float.{value_of}
use Rattle.ion_text_in.specs.declared.number.Numeral.TheVariants as numerals
use Rattle.ion_text_in.specs.Views.{as_number, numeral_token}
use Rattle.ion_text_in.proofs.RunTokens.{bad-token, float-token, number-token}
use Rattle.ion_text_in.proofs.ShownTokens.{run-shown, run-bad, run-over}
use Rattle.ion_text_in.proofs.number.scan_number.Goals as goal

pub returns-then-limit-count-clause-shows : goal.returns-then-limit-count-clause-shows
returns-then-limit-count-clause-shows c =
    run-over numeral_token c.args.limit c.in-Some.count c.args.bytes.now c.in-Some.ensures c.if-limit-count.true

pub returns-in-Ok-clause-shows : goal.returns-in-Ok-clause-shows
returns-in-Ok-clause-shows c =
    run-shown numeral_token (numerals.Number c.in-Ok.number) c.args.limit c.in-Some.count c.args.bytes.now c.in-Some.ensures c.if-limit-count.false
    (number-token _ (as_number c.in-Ok.number) c.in-Ok.ensures.gives)

pub returns-in-Some-plain_float-clause-shows : goal.returns-in-Some-plain_float-clause-shows
returns-in-Some-plain_float-clause-shows c =
    run-shown numeral_token (numerals.Float c.in-Some-plain_float.float) c.args.limit c.in-Some.count c.args.bytes.now c.in-Some.ensures c.if-limit-count.false
    (float-token _ (option_map value_of c.in-Some-plain_float.float) (c.in-Err-Float.ensures.gives ∙ ap (λ (r : Reason). Err r) c.in-Err-Float.field-0-is) c.in-Some-plain_float.ensures.is)

pub returns-in-Err-clause-shows : goal.returns-in-Err-clause-shows
returns-in-Err-clause-shows c =
    run-bad numeral_token c.in-Err.reason c.args.limit c.in-Some.count c.args.bytes.now c.in-Some.ensures c.if-limit-count.false
    (bad-token _ c.in-Err.reason (λ same. grind (arith, same, common_steps)) c.in-Err.ensures.gives)
