use Rattle.std.proofs.Common.{rules, ap, ap₂, false, ◌≡◌, ◌∙◌, ◌||◌}
use Rattle.std.proofs.lemmas.Result.{IfOk-weaker}
use Rattle.clap.specs.Words.{app_of, with_rule}
use Rattle.clap.specs.declared.builder.command.Command.TheViews.{out-Command}
use Rattle.ion_tool.specs.Words.{with_limits}
use Rattle.ion_tool.proofs.words.action_command.Goals as goal

-- each argument is one rule more
pub returns-clause-app : goal.returns-clause-app
returns-clause-app c =
    let bare : app_of c.after_help-command.result ≡ app_of c.args.command = search rules in
    let a0 = c.in_ok-arg.ensures.shape c.floats_arg.ensures.own ∙ ap₂ with_rule bare c.floats_arg.ensures.rule in
    let a1 = c.in_ok-command.ensures.shape c.catalog_arg.ensures.own ∙ ap₂ with_rule a0 c.catalog_arg.ensures.rule in
    let a2 = c.in_ok-command-2.ensures.shape c.lines_arg.ensures.own ∙ ap₂ with_rule a1 c.lines_arg.ensures.rule in
    let a3 = c.in_ok-with_limits.ensures.app ∙ ap with_limits a2 in
    IfOk-weaker c.arg-4.result _ _ (λ x h. h.shape c.files_arg.ensures.own ∙ ap₂ with_rule a3 c.files_arg.ensures.rule) c.arg-4.ensures

-- and none is global
pub returns-clause-own : goal.returns-clause-own
returns-clause-own c =
    let bare : (out-Command c.after_help-command.result).has_globals ≡ false = search rules in
    let g0 = c.in_ok-arg.ensures.globals ∙ ap₂ ◌||◌ bare c.floats_arg.ensures.own in
    let g1 = c.in_ok-command.ensures.globals ∙ ap₂ ◌||◌ g0 c.catalog_arg.ensures.own in
    let g2 = c.in_ok-command-2.ensures.globals ∙ ap₂ ◌||◌ g1 c.lines_arg.ensures.own in
    let g3 = c.in_ok-with_limits.ensures.own g2 in
    IfOk-weaker c.arg-4.result _ _ (λ x h. h.globals ∙ ap₂ ◌||◌ g3 c.files_arg.ensures.own) c.arg-4.ensures
