use mir.Syntax.{w32}
use mir.Val.{SFits}
use Rattle.std.proofs.Common.{rules, ◌∙◌, arith}
use Rattle.std.proofs.lemmas.Int.{to_z-of_z}
use Rattle.ion_text_in.proofs.Mantissas.{quick-power}
use Rattle.ion_text_in.proofs.quick.quick_power.Goals as goal

pub returns : goal.returns
returns c =
    let fits : SFits w32 c.exponent_of.result = search rules in
    quick-power c.args.negative c.args.digits.now c.args.coefficient c.args.places c.args.end c.in_ok-power.power _ c.requires.mantissa c.requires.mark c.in_ok-power.ensures (omega arith)
    (to_z-of_z w32 c.exponent_of.result fits ∙ c.exponent_of.ensures)
