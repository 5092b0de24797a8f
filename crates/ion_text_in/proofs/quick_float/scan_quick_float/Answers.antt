use Rattle.std.proofs.Common.{◌∙◌, ap, ℕ, ◌+◌, Some}
use Rattle.ion_text_in.specs.declared.number.Numeral.TheVariants as numerals
use Rattle.ion_text_in.specs.Token.{run_token}
use Rattle.ion_text_in.specs.Views.{numeral_token}
use Rattle.ion_text_in.proofs.QuickNumbers.{signed-parts}
use Rattle.ion_text_in.proofs.ShownTokens.{run-shown}
use Rattle.ion_text_in.proofs.quick_float.scan_quick_float.Goals as goal

pub returns-clause-shows : goal.returns-clause-shows
returns-clause-shows c =
    let x = c.in_ok-float in
    let quick = c.in_ok-float.ensures in
    let parts = signed-parts c.sign-negative.result.0 c.sign-negative.result.1.now c.args.bytes.now x.count (x.count + c.from.result) c.sign-negative.ensures quick.some quick.within quick.goes quick.ends (ap (λ (k : ℕ). x.count + k) c.from.ensures) in
    run-shown numeral_token (numerals.Float (Some x.float)) c.args.limit (x.count + c.from.result) c.args.bytes.now parts.0 c.if-limit-count.false (ap run_token parts.1 ∙ quick.gives)
