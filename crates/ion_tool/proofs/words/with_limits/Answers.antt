use Rattle.std.proofs.Common.{ap, ap₂, ◌∙◌, ◌||◌}
use Rattle.std.proofs.lemmas.Result.{IfOk-weaker}
use Rattle.clap.specs.Words.{with_rule}
use Rattle.ion_tool.proofs.words.with_limits.Goals as goal

-- each option is one rule more
pub returns-clause-app : goal.returns-clause-app
returns-clause-app c =
    let a1 = c.in_ok-arg.ensures.shape c.limit_arg.ensures.own ∙ ap (with_rule _) c.limit_arg.ensures.rule in
    let a2 = c.in_ok-arg-2.ensures.shape c.limit_arg-2.ensures.own ∙ ap₂ with_rule a1 c.limit_arg-2.ensures.rule in
    let a3 = c.in_ok-arg-3.ensures.shape c.limit_arg-3.ensures.own ∙ ap₂ with_rule a2 c.limit_arg-3.ensures.rule in
    IfOk-weaker c.arg-4.result _ _ (λ x h. h.shape c.limit_arg-4.ensures.own ∙ ap₂ with_rule a3 c.limit_arg-4.ensures.rule) c.arg-4.ensures

-- and none is global
pub returns-clause-own : goal.returns-clause-own
returns-clause-own c =
    IfOk-weaker c.arg-4.result _ _
    (λ x h none.
    let g1 = c.in_ok-arg.ensures.globals ∙ ap₂ ◌||◌ none c.limit_arg.ensures.own in
    let g2 = c.in_ok-arg-2.ensures.globals ∙ ap₂ ◌||◌ g1 c.limit_arg-2.ensures.own in
    let g3 = c.in_ok-arg-3.ensures.globals ∙ ap₂ ◌||◌ g2 c.limit_arg-3.ensures.own in
    h.globals ∙ ap₂ ◌||◌ g3 c.limit_arg-4.ensures.own)
    c.arg-4.ensures
