use Rattle.ion_value.proofs.VarOctets.{var_int_octets-VarInt}
use Rattle.ion_value.proofs.laws.var_int_bytes_are_read.Goals as goal

pub returns : goal.returns
returns c = var_int_octets-VarInt
