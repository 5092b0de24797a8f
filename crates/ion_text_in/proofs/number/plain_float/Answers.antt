use Rattle.std.proofs.Common.{◌∙◌, ◌≡◌, ap, true, ◌==◌, not, arith}
use Rattle.std.proofs.lemmas.Grind.{common_steps}
use Rattle.ion_value.specs.Digits.{all_are}
use Rattle.ion_value.specs.Float.{values_of}
use Rattle.ion_text_in.specs.Token.{found_float}
use Rattle.ion_float.proofs.TextReading.{plain-closed}
use Rattle.ion_text_in.proofs.RunTokens.{closed-read}
use Rattle.ion_text_in.proofs.number.plain_float.Goals as goal

pub returns-clause-is : goal.returns-clause-is
returns-clause-is c =
    let plain : all_are (λ b. not (b == 95)) c.args.run.now ≡ true = grind (arith, common_steps) in
    c.found.ensures ∙ ap found_float (closed-read c.args.run.now c.args.run.now (values_of c.nearest_float.result) c.requires (plain-closed c.args.run.now plain) c.nearest_float.ensures.read)
