use Rattle.std.proofs.Common.{sym, ◌∙◌}
use Rattle.ion_value.proofs.Words.{keyword_last}
use Rattle.ion_value.proofs.name.is_keyword.Goals.{then-is_null, else-is_null, then-is_true, else-is_true}
use Rattle.ion_value.proofs.name.is_keyword.Goals as goal

pub returns-else-is_false : goal.returns-else-is_false
returns-else-is_false c =
    elim c.if-is_true.branch [
      | then-is_true w ↦ absurd (cc (c.if-is_false.false, w.value-is, w.if-is_true.true))
      | else-is_true w ↦
          elim c.if-is_null.branch [
            | then-is_null v ↦ absurd (cc (w.if-is_true.false, v.value-is, v.if-is_null.true))
            | else-is_null v ↦
                let null = sym c.is_null.ensures ∙ v.if-is_null.false in
                let truth = sym v.is_true.ensures ∙ (sym v.value-is ∙ w.if-is_true.false) in
                let falsity = sym w.is_false.ensures ∙ (sym w.value-is ∙ c.if-is_false.false) in
                keyword_last c.args.name.now _ c.requires null truth falsity (sym c.is_nan.ensures)
          ]
    ]
