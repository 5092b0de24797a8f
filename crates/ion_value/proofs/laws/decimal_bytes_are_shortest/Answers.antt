use Rattle.ion_value.proofs.Octets.{Below-All}
use Rattle.ion_value.proofs.DecimalOctets.{Read-decimal_of_bytes, decimal_body-fewest}
use Rattle.ion_value.proofs.laws.decimal_bytes_are_shortest.Goals as goal

pub returns : goal.returns
returns c = λ d b octets ok. decimal_body-fewest d b (Below-All 256 b octets) (Read-decimal_of_bytes d b ok).body
