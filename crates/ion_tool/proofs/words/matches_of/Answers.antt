use Rattle.std.proofs.Common.{true, ◌≡◌, ◌∙◌, ap, map, refl, string_bytes, subst}
use Rattle.std.proofs.lemmas.Result.{IfOk-weaker}
use Rattle.clap.specs.Words.{App, FailsBy, fault_of, is_simple, is_simple_and_free}
use Rattle.ion_tool.specs.Words.{ion_app}
use Rattle.ion_tool.proofs.words.matches_of.Goals as goal

simple : is_simple ion_app ≡ true
simple = refl

simple_and_free : is_simple_and_free ion_app ≡ true
simple_and_free = refl

pub returns-clause-matches : goal.returns-clause-matches
returns-clause-matches c =
    let matches = rw c.in_ok-command.ensures.app at c.try_get_matches_from.ensures.matches in
    IfOk-weaker c.try_get_matches_from.result _ _ (λ m has. (has simple).1) matches

pub returns-clause-kinds : goal.returns-clause-kinds
returns-clause-kinds c =
    let app = c.in_ok-command.ensures.app in
    subst (λ (a : App). FailsBy (fault_of a (map string_bytes c.args.words.now)) c.try_get_matches_from.result) app
    (c.try_get_matches_from.ensures.kinds (ap is_simple_and_free app ∙ simple_and_free))
