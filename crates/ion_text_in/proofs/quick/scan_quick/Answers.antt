use Rattle.std.proofs.Common.{◌∙◌, ap, sym, subst, List, ℕ, ◌+◌}
use Rattle.ion_text_in.specs.Quick.{as_quick, AreSpelled}
use Rattle.ion_text_in.specs.Token.{run_token}
use Rattle.ion_text_in.specs.Views.{number_token}
use Rattle.ion_text_in.proofs.QuickNumbers.{signed-parts}
use Rattle.ion_text_in.proofs.ShownTokens.{run-shown}
use Rattle.ion_text_in.proofs.quick.scan_quick.Goals as goal

pub returns-clause-shows : goal.returns-clause-shows
returns-clause-shows c =
    let x = c.in_ok-quick.quick in
    let quick = c.in_ok-quick.ensures in
    let parts = signed-parts c.sign-negative.result.0 c.sign-negative.result.1.now c.args.bytes.now x.count (x.count + c.from.result) c.sign-negative.ensures quick.some quick.within quick.goes quick.ends (ap (λ (k : ℕ). x.count + k) c.from.ensures) in
    run-shown number_token (as_quick x) c.args.limit (x.count + c.from.result) c.args.bytes.now parts.0 c.if-limit-count.false (ap run_token parts.1 ∙ quick.gives)

pub returns-clause-spelled : goal.returns-clause-spelled
returns-clause-spelled c =
    let x = c.in_ok-quick.quick in
    let quick = c.in_ok-quick.ensures in
    let parts = signed-parts c.sign-negative.result.0 c.sign-negative.result.1.now c.args.bytes.now x.count (x.count + c.from.result) c.sign-negative.ensures quick.some quick.within quick.goes quick.ends (ap (λ (k : ℕ). x.count + k) c.from.ensures) in
    let spelled = subst (λ (l : List ℕ). AreSpelled l x) (sym parts.1) quick.spelled in
    record { int = spelled.int; text = spelled.text }
