use Rattle.std.proofs.Common.{◌∙◌, ap, sym, Some, Ok, List, ℕ, arith}
use Rattle.ion_meter.specs.Sources.{cursor}
use Rattle.ion_value.proofs.Cursors.{answers-refused}
use Rattle.ion_text_in.specs.Token.{word_of, word_token}
use Rattle.ion_text_in.specs.Views.{word_token_of}
use Rattle.ion_text_in.proofs.Holding.{handed-on}
use Rattle.ion_text_in.proofs.Prepaid.{prepaid_word-most}
use Rattle.ion_text_in.proofs.ShownTokens.{gathered-bad, gathered-refused, gathered-token, word-by}
use Rattle.ion_text_in.proofs.word.gather_word.Goals as goal

pub returns-in_err-gather_typed-clause-gives : goal.returns-in_err-gather_typed-clause-gives
returns-in_err-gather_typed-clause-gives g c = λ h.
    let limit = Some c.args.limits.scalar in
    let from = cursor g.I.Input c.args.source.now in
    rw (handed-on c.from_residual.result c.in_err-gather_typed.field-0.0 c.from_residual.ensures) (answers-refused (λ (x : Unit {0}). c.gather_typed.new.text) (word_token_of c.gather_typed.new.text) _ _ _ c.args.source.now.place _ _ (c.in_err-gather_typed.ensures.gives h)
    (λ e k. word-by limit from ∙ gathered-refused word_of word_token limit from e k))

pub returns-in-Ok-clause-gives : goal.returns-in-Ok-clause-gives
returns-in-Ok-clause-gives g c = λ h.
    let limit = Some c.args.limits.scalar in
    let from = cursor g.I.Input c.args.source.now in
    let text : List ℕ = c.gather_typed.new.text in
    word-by limit from
    ∙ gathered-token word_of word_token limit from (cursor g.I.Input c.gather_typed.new.source) text (word_token_of text c.in-Ok.word) (c.in_ok-gather_typed.ensures.gives h)
    (ap word_token (sym c.as_slice.ensures) ∙ c.in-Ok.ensures ∙ ap (λ (l : List ℕ). Ok (word_token_of l c.in-Ok.word)) c.as_slice.ensures)

pub returns-in-Err-clause-gives : goal.returns-in-Err-clause-gives
returns-in-Err-clause-gives g c = λ h.
    let limit = Some c.args.limits.scalar in
    let from = cursor g.I.Input c.args.source.now in (
      word-by limit from
          ∙ gathered-bad word_of word_token limit from (cursor g.I.Input c.gather_typed.new.source) c.gather_typed.new.text c.in-Err.reason (c.in_ok-gather_typed.ensures.gives h)
          (ap word_token (sym c.as_slice.ensures) ∙ c.in-Err.ensures),
      c.place-place.ensures,
    )

pub returns-in-Ok-clause-fresh : goal.returns-in-Ok-clause-fresh
returns-in-Ok-clause-fresh g c =
    let most = prepaid_word-most c.gather_typed.new.text c.in-Ok.word in
    let fresh = c.in_ok-gather_typed.ensures.fresh in
    omega (arith, most, fresh)
