use Rattle.std.proofs.Common.{◌∙◌, ap, sym, ℕ, Option, arith}
use Rattle.std.proofs.lemmas.Grind.{common_steps}
use Rattle.std.proofs.lemmas.List.{take_rest}
use Rattle.ion_text_in.specs.Views.{id_in}
use Rattle.ion_text_in.proofs.WordTokens.{dollar-word, id_token, ok, plain-word}
use Rattle.ion_text_in.proofs.word.word_by.Goals as goal

pub returns-in-Some : goal.returns-in-Some
returns-in-Some c =
    let word = c.args.word.now in
    dollar-word word (grind (arith, common_steps)) ∙ ap (λ (o : Option ℕ). ok (id_token word o)) (ap id_in (sym (take_rest word 1)) ∙ sym c.in-Some.ensures)

pub returns-in-None : goal.returns-in-None
returns-in-None c =
    let word = c.args.word.now in
    dollar-word word (grind (arith, common_steps)) ∙ ap (λ (o : Option ℕ). ok (id_token word o)) (ap id_in (sym (take_rest word 1)) ∙ sym c.in-None.ensures)

pub returns-in_default : goal.returns-in_default
returns-in_default c = plain-word c.args.word.now (sym c.may_be_keyword.ensures ∙ c.if-may_be_keyword.false) (grind (arith, common_steps))

pub returns-in_default-2 : goal.returns-in_default-2
returns-in_default-2 c = plain-word c.args.word.now (sym c.may_be_keyword.ensures ∙ c.if-may_be_keyword.false) (grind (arith, common_steps))
