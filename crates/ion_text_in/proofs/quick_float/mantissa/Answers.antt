use Rattle.std.proofs.lemmas.Option.{IfSome_then}
use Rattle.ion_text_in.proofs.Mantissas.{plain-mantissa, pointed-mantissa}
use Rattle.ion_text_in.proofs.quick_float.mantissa.Goals as goal

pub returns-then-digits-count-eq46 : goal.returns-then-digits-count-eq46
returns-then-digits-count-eq46 c =
    IfSome_then c.pointed.result c.pointed.ensures (λ x is. pointed-mantissa c.args.digits.now c.args.count x c.requires.whole c.if-digits-count-eq46.true is)

pub returns : goal.returns
returns c = rw c.number_after.ensures (plain-mantissa c.args.digits.now c.args.count c.requires.whole)
