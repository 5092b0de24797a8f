use Rattle.std.proofs.Common.{arith, lit<}
use Rattle.ion_float.proofs.TextOfBits.{exponent-passed}
use Rattle.ion_float.proofs.text.push_long_exponent.Goals as goal

pub push_str-requires : goal.push_str-requires
push_str-requires c =
    let short = exponent-passed c.args.exponent c.format.result.now c.ranges.exponent c.requires.least c.requires.most c.format.ensures.text in
    (lit< tt, omega (arith, c.requires.room, short))
