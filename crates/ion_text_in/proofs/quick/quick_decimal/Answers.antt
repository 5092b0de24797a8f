use mir.Syntax.{w32}
use mir.Val.{SFits}
use Rattle.std.proofs.Common.{rules, ◌∙◌, sym, arith}
use Rattle.std.proofs.lemmas.Int.{to_z-of_z}
use Rattle.ion_text_in.proofs.Mantissas.{pointed-mantissa}
use Rattle.ion_text_in.proofs.QuickNumbers.{quick-decimal}
use Rattle.ion_text_in.proofs.quick.quick_decimal.Goals as goal

pub returns-then-stops_number : goal.returns-then-stops_number
returns-then-stops_number c =
    let fits : SFits w32 c.exponent_of.result = search rules in
    quick-decimal c.args.negative c.args.digits.now c.args.count c.in_ok-number.field-0 _ c.requires.whole c.requires.point c.in_ok-number.ensures (sym c.stops_number.ensures ∙ c.if-stops_number.true) (omega arith)
    (to_z-of_z w32 c.exponent_of.result fits ∙ c.exponent_of.ensures)

pub quick_power-requires-clause-mantissa : goal.quick_power-requires-clause-mantissa
quick_power-requires-clause-mantissa c =
    pointed-mantissa c.args.digits.now c.args.count c.in_ok-number.field-0 c.requires.whole c.requires.point c.in_ok-number.ensures
