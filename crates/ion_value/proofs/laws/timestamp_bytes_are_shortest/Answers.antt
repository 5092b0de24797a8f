use Rattle.ion_value.proofs.Octets.{Below-All}
use Rattle.ion_value.proofs.TimestampFewest.{timestamp_body-fewest}
use Rattle.ion_value.proofs.laws.timestamp_bytes_are_shortest.Goals as goal

pub returns : goal.returns
returns c = λ t b octets ok. timestamp_body-fewest t b (Below-All 256 b octets) ok
