use mir.Syntax.{w32}
use mir.Val.{SFits}
use Rattle.std.proofs.Common.{arith, sym, ◌∙◌, rules}
use Rattle.std.proofs.lemmas.Int.{to_z-of_z}
use Rattle.ion_value.proofs.DecimalOctets.{decimal_body-none, decimal_body-parts, decimal_body-octets}
use Rattle.std.proofs.lemmas.Grind.{common_steps}
use Rattle.ion_value.proofs.decimal.decimal_to_bytes.Goals as goal

pub returns-then-is_plain_zero-clause-spelled : goal.returns-then-is_plain_zero-clause-spelled
returns-then-is_plain_zero-clause-spelled c =
    c.new.ensures ∙ sym (decimal_body-none c.args.decimal (sym c.is_plain_zero.ensures ∙ c.if-is_plain_zero.true))

pub returns-clause-spelled : goal.returns-clause-spelled
returns-clause-spelled c =
    let parts = decimal_body-parts c.args.decimal (sym c.is_plain_zero.ensures ∙ c.if-is_plain_zero.false) in
    let fits : SFits w32 c.args.decimal.exponent = search rules in
    let same = to_z-of_z w32 c.args.decimal.exponent fits in
    rw (c.joined.ensures, c.as_slice.ensures.value, c.exponent_write-exponent.ensures.spelled, c.as_slice-2.ensures.value, c.coefficient_write-coefficient.ensures, same) (sym parts)

pub returns-clause-octets : goal.returns-clause-octets
returns-clause-octets c = rw (returns-clause-spelled c) (decimal_body-octets c.args.decimal c.requires)

pub returns-then-is_plain_zero-clause-octets : goal.returns-then-is_plain_zero-clause-octets
returns-then-is_plain_zero-clause-octets c = grind (arith, common_steps)
