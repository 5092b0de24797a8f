use Rattle.std.proofs.Common.{ap, ap₂, ◌∙◌}
use Rattle.std.proofs.lemmas.Result.{IfOk-weaker}
use Rattle.clap.specs.Simple.{App, app_of_fields}
use Rattle.clap.specs.Words.{with_subcommand}
use Rattle.ion_tool.specs.Words.{action_app}
use Rattle.ion_tool.proofs.words.command.Goals as goal

-- each action is one subcommand more
pub returns : goal.returns
returns c =
    let more = λ (top own : App). with_subcommand top (action_app own).top in
    let a1 = c.in_ok-command.ensures.app ∙ ap₂ more c.top_command.ensures c.in_ok-show.ensures.app in
    let a2 = c.in_ok-command-2.ensures.app ∙ ap₂ more a1 c.new-check.ensures.app in
    let a3 = c.in_ok-with_action.ensures.app ∙ ap₂ more a2 c.in_ok-convert.ensures.app in
    record { app = IfOk-weaker c.bin_name.result _ _ (λ x h. ap app_of_fields h.0 ∙ a3) c.bin_name.ensures }
