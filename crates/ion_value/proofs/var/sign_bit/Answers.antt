use Rattle.ion_value.proofs.Fields.{sign-bit}
use Rattle.ion_value.proofs.var.sign_bit.Goals as goal

pub returns : goal.returns
returns c = sign-bit c.args.count c.requires.some c.requires.short
