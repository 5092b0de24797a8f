use Rattle.std.proofs.Common.{◌/◌, ◌%◌, ◌^◌, arith}
use lib.Bits.{and_mask}
use Rattle.ion_float.proofs.Fields.{value_by_fields, normal_value}
use Rattle.ion_float.proofs.exact.parts_of.Goals as goal

pub returns-then-field-eq0-clause-value : goal.returns-then-field-eq0-clause-value
returns-then-field-eq0-clause-value c = rw (and_mask c.args.bits 52) (value_by_fields c.args.bits 0 (c.args.bits % 2 ^ 52) (omega arith) (omega arith) (omega arith))

pub returns-else-field-eq0-clause-value : goal.returns-else-field-eq0-clause-value
returns-else-field-eq0-clause-value c =
    let b = c.args.bits in
    rw (and_mask b 52) (normal_value b (b / 2 ^ 52) (b % 2 ^ 52) (omega arith) (omega arith) (omega arith) (omega arith))
