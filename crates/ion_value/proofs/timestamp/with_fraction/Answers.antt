use Rattle.std.proofs.Common.{length, ◌≤◌, true, false, arith, length-append}
use Rattle.ion_value.specs.Number.{var_int_octets, coefficient_octets}
use Rattle.ion_value.proofs.TimestampBodies.{var_int-short, fraction-short}
use Rattle.std.proofs.lemmas.Grind.{common_steps}
use Rattle.ion_value.proofs.timestamp.with_fraction.Goals as goal

pub append-requires-2 : goal.append-requires-2
append-requires-2 c =
    let exponent : length (var_int_octets true c.args.digits) ≤ 1 = var_int-short true c.args.digits 1 (omega arith) (omega arith) in
    let coefficient : length (coefficient_octets false c.args.fraction) ≤ 16 = fraction-short c.args.digits c.args.fraction c.requires.digits c.requires.fraction in
    let room = c.requires.room in
    rw (c.append.ensures, length-append, c.as_slice.ensures.value, c.var_int_write.ensures.spelled, c.as_slice-2.ensures.value, c.coefficient_write.ensures) (omega arith)

pub returns : goal.returns
returns c = grind (arith, common_steps)
