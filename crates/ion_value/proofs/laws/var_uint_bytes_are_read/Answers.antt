use Rattle.ion_value.proofs.VarOctets.{var_uint_octets-VarUInt}
use Rattle.ion_value.proofs.laws.var_uint_bytes_are_read.Goals as goal

pub returns : goal.returns
returns c = var_uint_octets-VarUInt
