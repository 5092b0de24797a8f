use Rattle.ion_value.specs.Decimal.{decimal_body}
use Rattle.ion_value.proofs.DecimalOctets.{decimal_of_bytes-Ok, decimal_body-DecimalBody}
use Rattle.ion_value.proofs.laws.decimal_bytes_are_read.Goals as goal

pub returns : goal.returns
returns c = λ d range. decimal_of_bytes-Ok d (decimal_body d) (decimal_body-DecimalBody d range) range
