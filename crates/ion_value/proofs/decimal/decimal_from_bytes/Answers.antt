use Rattle.std.proofs.Common.{◌<◌, Err, length, sym, ◌∙◌, ap, arith}
use Rattle.std.proofs.lemmas.Bool.{eqb-true, eqb-false}
use Rattle.std.proofs.lemmas.List.{take_rest}
use Rattle.ion_value.proofs.DecimalOctets.{decimal_of_bytes-parts, decimal_of_bytes-unended, decimal_of_bytes-none}
use Rattle.std.proofs.lemmas.Grind.{common_steps}
use Rattle.ion_value.proofs.decimal.decimal_from_bytes.Goals as goal

pub returns-then-is_empty-clause-read : goal.returns-then-is_empty-clause-read
returns-then-is_empty-clause-read c =
    sym (decimal_of_bytes-none c.args.body.now (eqb-true (length c.args.body.now) 0 (sym c.is_empty.ensures ∙ c.if-is_empty.true)))

pub returns-in-Ok-clause-read : goal.returns-in-Ok-clause-read
returns-in-Ok-clause-read c =
    let b = c.args.body.now in
    let ne = eqb-false (length b) 0 (sym c.is_empty.ensures ∙ c.if-is_empty.false) in
    let some : 0 < length b = omega arith in
    let read = c.in-Ok.ensures.read in
    let parts = rw take_rest at c.parts_read.ensures in
    parts ∙ sym (decimal_of_bytes-parts c.in-Ok.exponent c.in-Ok.count b some read.1)

pub returns-in-Err-clause-read : goal.returns-in-Err-clause-read
returns-in-Err-clause-read c =
    let b = c.args.body.now in
    let ne = eqb-false (length b) 0 (sym c.is_empty.ensures ∙ c.if-is_empty.false) in
    let some : 0 < length b = omega arith in
    let refused = c.in-Err.ensures.refused in
    ap Err refused.0 ∙ sym (decimal_of_bytes-unended b some refused.1)

pub returns-in-Ok-clause-refused : goal.returns-in-Ok-clause-refused
returns-in-Ok-clause-refused c = grind (arith, common_steps)

pub returns-in-Ok-clause-valid : goal.returns-in-Ok-clause-valid
returns-in-Ok-clause-valid c = grind (arith, common_steps)
