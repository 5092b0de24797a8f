use Rattle.ion_value.proofs.DecimalOctets.{decimal_of_bytes-Ok, Read-decimal_of_bytes}
use Rattle.ion_value.proofs.laws.decimal_bodies.Goals as goal

pub returns : goal.returns
returns c = λ d b. (
  decimal_of_bytes-Ok d b,
  λ ok. let read = Read-decimal_of_bytes d b ok in (read.body, read.range),
)
