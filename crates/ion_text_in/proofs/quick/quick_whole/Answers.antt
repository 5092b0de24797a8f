use Rattle.ion_text_in.proofs.Mantissas.{plain-mantissa}
use Rattle.ion_text_in.proofs.quick.quick_whole.Goals as goal

pub quick_power-requires-clause-mantissa : goal.quick_power-requires-clause-mantissa
quick_power-requires-clause-mantissa c =
    rw c.number_by.ensures (plain-mantissa c.args.digits.now c.args.count c.requires.whole)
