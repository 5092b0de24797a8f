use Rattle.std.proofs.Common.{◌≡◌, rules}
use Rattle.ion_value.specs.Decimal.{exponent_octets}
use Rattle.ion_value.proofs.DecimalOctets.{exponent_octets-short}
use Rattle.ion_value.proofs.decimal.exponent_write.Goals as goal

pub returns-clause-short : goal.returns-clause-short
returns-clause-short c =
    let spelled : c.var_int_write.result.items ≡ exponent_octets c.args.exponent = search rules in
    rw spelled (exponent_octets-short c.args.exponent c.requires).0
