use Rattle.std.proofs.Common.{arith, ◌≤◌, length}
use Rattle.ion_float.proofs.TextOfBits.{digits-some, digits-short}
use Rattle.ion_float.proofs.text.push_number.Goals as goal

pub push_pointed-requires-clause-some : goal.push_pointed-requires-clause-some
push_pointed-requires-clause-some c = rw c.format-digits.ensures.text (digits-some c.args.number.digits c.requires.few)

pub overflow_sub-digits : goal.overflow_sub-digits
overflow_sub-digits c = rw c.format-digits.ensures.text (digits-some c.args.number.digits c.requires.few)

pub push_exponent-requires-clause-room : goal.push_exponent-requires-clause-room
push_exponent-requires-clause-room c =
    let short : length c.format-digits.result.now ≤ 17 = rw c.format-digits.ensures.text (digits-short c.args.number.digits c.requires.few) in
    omega (arith, c.push_pointed.ensures.len)

pub push_exponent-requires-clause-most : goal.push_exponent-requires-clause-most
push_exponent-requires-clause-most c =
    let short : length c.format-digits.result.now ≤ 17 = rw c.format-digits.ensures.text (digits-short c.args.number.digits c.requires.few) in
    omega arith
