use Rattle.std.proofs.lemmas.Grind.{common_steps}
use Rattle.std.proofs.Common.{arith, ◌∙◌, ap, sym, Some, Err, ℕ, List}
use Rattle.std.specs.Prelude.{option_map}
use Rattle.ion_meter.specs.declared.fault.Reason.{Reason}
use Rattle.ion_meter.specs.Sources.{cursor}
use Rattle.ion_value.proofs.Cursors.{answers-refused}
use Rattle.ion_value.specs.Float.{value_of}
use Rattle.ion_value.specs.Scalar.{scalar_of_run}
use Rattle.ion_value.specs.Value.{SymbolAt}
use Rattle.ion_text_in.specs.Token.{bytes_of, in_run, run_token}
use Rattle.ion_text_in.specs.declared.number.Numeral.TheVariants as numerals
use Rattle.ion_text_in.specs.Views.{as_number, numeral_token}
use Rattle.ion_text_in.proofs.RunTokens.{bad-token, float-token, number-token}
use Rattle.ion_text_in.proofs.ShownTokens.{run-by, gathered-token, gathered-bad, gathered-refused}
use Rattle.ion_text_in.proofs.Holding.{handed-on}
use Rattle.ion_text_in.proofs.number.gather_number.Goals as goal

pub returns-in_err-gather_token-clause-gives : goal.returns-in_err-gather_token-clause-gives
returns-in_err-gather_token-clause-gives g c = λ h.
    let limit = Some c.args.limits.scalar in
    let from = cursor g.I.Input c.args.source.now in
    rw (handed-on c.from_residual.result c.in_err-gather_token.field-0.0 c.from_residual.ensures) (answers-refused (λ (x : Unit {0}). c.gather_token.new.text) numeral_token c.in_err-gather_token.field-0.0 _ _ c.args.source.now.place _ _ (c.in_err-gather_token.ensures.gives h)
    (λ e k. run-by limit from ∙ gathered-refused (bytes_of in_run) run_token limit from e k))

pub returns-in-Ok-clause-gives : goal.returns-in-Ok-clause-gives
returns-in-Ok-clause-gives g c = λ h.
    let limit = Some c.args.limits.scalar in
    let from = cursor g.I.Input c.args.source.now in
    run-by limit from
    ∙ gathered-token (bytes_of in_run) run_token limit from (cursor g.I.Input c.gather_token.new.source) c.gather_token.new.text (numeral_token (numerals.Number c.in-Ok.number)) (c.in_ok-gather_token.ensures.gives h)
    (ap run_token (sym c.as_slice.ensures) ∙ number-token _ (as_number c.in-Ok.number) c.in-Ok.ensures.gives)

pub returns-in-Err-Float-clause-gives : goal.returns-in-Err-Float-clause-gives
returns-in-Err-Float-clause-gives g c = λ h.
    let limit = Some c.args.limits.scalar in
    let from = cursor g.I.Input c.args.source.now in
    run-by limit from
    ∙ gathered-token (bytes_of in_run) run_token limit from (cursor g.I.Input c.gather_token.new.source) c.gather_token.new.text (numeral_token (numerals.Float c.closed_float.result))
    (c.in_ok-gather_token.ensures.gives h)
    (float-token c.gather_token.new.text (option_map value_of c.closed_float.result)
    (ap (λ (run : List ℕ). scalar_of_run {S = SymbolAt} run) (sym c.as_slice.ensures) ∙ c.in-Err-Float.ensures.gives ∙ ap (λ (r : Reason). Err r) c.in-Err-Float.field-0-is)
    c.closed_float.ensures.is)

pub returns-in-Err-clause-gives : goal.returns-in-Err-clause-gives
returns-in-Err-clause-gives g c = λ h.
    let limit = Some c.args.limits.scalar in
    let from = cursor g.I.Input c.args.source.now in (
      run-by limit from
          ∙ gathered-bad (bytes_of in_run) run_token limit from (cursor g.I.Input c.gather_token.new.source) c.gather_token.new.text c.in-Err.reason (c.in_ok-gather_token.ensures.gives h)
          (ap run_token (sym c.as_slice.ensures) ∙ bad-token _ c.in-Err.reason (λ same. grind (arith, same, common_steps)) c.in-Err.ensures.gives),
      c.place-place.ensures,
    )
